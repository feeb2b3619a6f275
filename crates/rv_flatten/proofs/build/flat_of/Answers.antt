use Rattle.std.proofs.Common.{◌≡◌, sym, ◌∙◌, ap, subst}
use Rattle.rv_tree.specs.Tree.{program_tree}
use Rattle.rv_types.specs.Instances.{name_at}
use Rattle.rv_instances.specs.{Expanded.program_of, Counts.expanded, Fitting.Fits}
use Rattle.rv_flat.specs.declared.flat.Flat.{Flat}
use Rattle.rv_instances.proofs.Lists.{if_ok}
use Rattle.rv_flatten.proofs.build.flat_of.Goals as goal

pub new-requires : goal.new-requires
new-requires c = c.requires.instances

pub flat_expanded-requires-clause-fits : goal.flat_expanded-requires-clause-fits
flat_expanded-requires-clause-fits c =
    let same : program_tree c.args.program.now ≡ program_of c.in_ok-expanded.expanded = sym (ap program_tree c.in_ok-expanded.ensures.program) in
    subst (λ q. Fits q c.args.typed.now c.args.order.now) same c.requires

pub returns-clause-expanded : goal.returns-clause-expanded
returns-clause-expanded c =
    let p = program_tree c.args.program.now in let name = name_at p c.args.typed.now.main in
    if_ok c.flat_expanded.result (λ (f : Flat). f.expanded ≡ c.args.order.now.expanded) (λ (f : Flat). f.expanded ≡ expanded p name)
    (λ f is. is ∙ c.requires.nodes) c.flat_expanded.ensures.expanded
