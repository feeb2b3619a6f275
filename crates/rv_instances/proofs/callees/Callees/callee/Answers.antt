use Rattle.std.proofs.Common.{◌∙◌, ap}
use Rattle.rv_instances.specs.Callees.{callee_in}
use Rattle.rv_instances.proofs.CalleeTables.{looked_up}
use Rattle.rv_instances.proofs.callees.Callees.callee.Goals as goal

pub returns-in-None : goal.returns-in-None
returns-in-None c =
    c.in-None.ensures.value ∙ looked_up c.self.inside.numbers.entries c.args.instance c.args.site
    ∙ ap (λ es. callee_in es c.args.instance c.args.site) c.self.view_is

pub returns-in-Some : goal.returns-in-Some
returns-in-Some c =
    c.in-Some.ensures.value ∙ looked_up c.self.inside.numbers.entries c.args.instance c.args.site
    ∙ ap (λ es. callee_in es c.args.instance c.args.site) c.self.view_is
