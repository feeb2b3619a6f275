use Rattle.std.proofs.Common.{◌∙◌, ap, reverse, Some, slice_get, None as Nothing}
use Rattle.rv_tree.specs.Tree.{program_tree}
use Rattle.rv_types.specs.declared.typed.Kind.{Kind}
use Rattle.rv_meaning.specs.Telling.{constant_told}
use Rattle.rv_meaning.proofs.kinds.kind_of_name.Goals as goal

pub returns-in-Some : goal.returns-in-Some
returns-in-Some c =
    let p = program_tree c.args.p.now in
    ap (λ o. elim o as (λ _. Kind) [ Nothing ↦ constant_told p (reverse p.constants) c.args.name.now | Some k ↦ k ])
    (c.in-Some.ensures ∙ ap (slice_get c.args.kinds.now) c.flow_site.ensures)

pub returns-in-None : goal.returns-in-None
returns-in-None c =
    let p = program_tree c.args.p.now in
    c.kind_of_constant.ensures
    ∙ ap (λ o. elim o as (λ _. Kind) [ Nothing ↦ constant_told p (reverse p.constants) c.args.name.now | Some k ↦ k ])
    (c.in-None.ensures ∙ ap (slice_get c.args.kinds.now) c.flow_site.ensures)
