use Rattle.std.proofs.Common.{◌≡◌, length, get_or, sym, ◌∙◌, ap, arith, List, Option, Some, None as Nothing}
use Rattle.std.proofs.lemmas.List.{get_or_default}
use Rattle.rv_instances.specs.declared.givers.Giver.{Giver}
use Rattle.rv_instances.proofs.givers.all_found.Goals as goal

pub unreachable-requires : goal.unreachable-requires
unreachable-requires c =
    let items = c.as_slice-giver-items.result.now in
    let k = c.loop-giver.giver-index in let lt = c.loop-giver-test.true in
    let g = c.requires k (omega (arith, ap length c.as_slice-giver-items.ensures, lt)) in
    let none : Nothing ≡ Some g.0 =
    sym c.in-None.is ∙ c.giver-item.is ∙ sym (get_or_default items k Nothing c.giver-item.result lt)
    ∙ ap (λ (l : List (Option Giver)). get_or l k Nothing) c.as_slice-giver-items.ensures ∙ g.1 in
    cc
