use Rattle.std.proofs.Common.{subst}
use Rattle.rv_instances.specs.{Expanded.program_of, Givers.StandsFor}
use Rattle.rv_flatten.proofs.items.giver_item.Goals as goal

pub returns-in-Input : goal.returns-in-Input
returns-in-Input c numbers q g light ticks numbering gives stands =
    let x = c.args.expanded.now in
    c.input_item.ensures (program_of x) x.instances.now numbers g (subst (λ t. StandsFor (program_of x) x.instances.now t g) c.in-Input.is stands)

pub returns-in-Body : goal.returns-in-Body
returns-in-Body c numbers q g light ticks numbering gives stands =
    let x = c.args.expanded.now in
    c.body_item.ensures numbers q g light ticks numbering gives (subst (λ t. StandsFor (program_of x) x.instances.now t g) c.in-Body.is stands)

pub returns-in-Output : goal.returns-in-Output
returns-in-Output c numbers q g light ticks numbering gives stands =
    let x = c.args.expanded.now in
    c.output_item.ensures numbers q g light ticks numbering gives (subst (λ t. StandsFor (program_of x) x.instances.now t g) c.in-Output.is stands)
