use Rattle.std.proofs.Common.{rules, ℕ, ◌<◌, ◌++◌, get_or, length, flat_map, refl, ap, ◌∙◌, arith, SFits}
use Rattle.std.proofs.{lemmas.Int.to_z-of_z, lemmas.List.get_or_default}
use Rattle.std.specs.Int.{w128}
use Rattle.rv_flatten.specs.Literals.{around, around_literal}
use Rattle.rv_flatten.proofs.Gathered.{gathered_more, gathered_all}
use Rattle.rv_flatten.proofs.thresholds.spread_literals.Goals as goal

pub each-preserved : goal.each-preserved
each-preserved c =
    let all = c.args.literals.now in
    let n : ℕ = get_or all c.each.literal-index 0 in
    let lt : c.each.literal-index < length all = omega arith in
    let fits : SFits w128 c.from.result = search rules in
    gathered_more around_literal (flat_map around_literal) (λ x xs. refl) all c.each.literal-index n c.each.spread c.add_around.new.spread
    (c.args.spread.now ++ flat_map around_literal all) lt (get_or_default all c.each.literal-index 0 n lt)
    (c.in_ok-add_around.ensures ∙ ap (λ z. c.each.spread ++ around z) (to_z-of_z w128 c.from.result fits ∙ c.from.ensures)) c.each.invariant

pub returns : goal.returns
returns c =
    let all = c.args.literals.now in
    gathered_all (flat_map around_literal) refl all c.each.literal-index c.each.spread (c.args.spread.now ++ flat_map around_literal all)
    (omega arith) c.each.invariant
