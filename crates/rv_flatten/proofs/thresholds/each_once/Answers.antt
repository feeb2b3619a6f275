use Rattle.std.proofs.Common.{rules, ◌+◌, ℤ, pos, get_or, refl, sym, ◌∙◌, ap, subst, arith, SFits}
use Rattle.std.proofs.lemmas.Int.{to_z-of_z}
use Rattle.std.specs.Int.{w128}
use Rattle.rv_flatten.specs.Literals.{with_new}
use Rattle.rv_flatten.proofs.DistinctNumbers.{IsDistinctSoFar, one_more_distinct}
use Rattle.rv_flatten.proofs.thresholds.each_once.Goals as goal

pub each-preserved : goal.each-preserved
each-preserved c =
    let all = c.args.sorted.now in
    let z : ℤ = get_or all c.each.number-index (pos 0) in
    let fits : SFits w128 z = search rules in
    subst (IsDistinctSoFar all (c.each.number-index + 1)) (sym (c.in_ok-add_new.ensures ∙ ap (with_new c.each.distinct) (to_z-of_z w128 z fits)))
    (one_more_distinct all c.each.distinct c.each.number-index z c.requires (omega arith) refl c.each.invariant)
