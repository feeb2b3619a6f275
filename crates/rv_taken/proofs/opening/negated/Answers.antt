use Rattle.std.proofs.Common.{◌≡◌, ◌<◌, ◌≤◌, ◌^◌, ◌∙◌, ℤ, pos, ◌-ℤ◌, length, get_or, ap, subst, arith}
use Rattle.std.proofs.{lemmas.Int.ints, lemmas.Int.to_z-of_z, lemmas.Option.get_or_from_slice_get}
use Rattle.std.specs.Int.RustNames.{unsigned_abs}
use mir.Val.{to_z, of_z}
use mir.Syntax.{w128}
use Rattle.rv_rows.proofs.IntLemmas.{fits_below}
use Rattle.rv_taken.proofs.Points.{opposite_more}
use Rattle.rv_taken.proofs.opening.negated.Goals as goal

turned : (x : ℤ) → unsigned_abs x ≤ 2 ^ 41 → to_z w128 (of_z w128 (pos 0 -ℤ to_z w128 (of_z w128 x))) ≡ pos 0 -ℤ x
turned x h =
    ap (λ z. to_z w128 (of_z w128 (pos 0 -ℤ z))) (to_z-of_z w128 x (fits_below x (omega arith)))
    ∙ to_z-of_z w128 (pos 0 -ℤ x) (fits_below (pos 0 -ℤ x) (omega (arith, ints)))

pub loop-column-preserved : goal.loop-column-preserved
loop-column-preserved c =
    let low : c.loop-column.column < length c.args.numbers.now = omega (arith, c.loop-column-test.true, c.len-column-end.ensures) in
    let small : unsigned_abs (get_or c.args.numbers.now c.loop-column.column (pos 0)) ≤ 2 ^ 41 = c.requires c.loop-column.column (pos 0) low in
    opposite_more c.args.numbers.now c.loop-column.list c.push.new.self c.loop-column.column c.at.result.now _ c.at.ensures.value
    (turned c.at.result.now (subst (λ (z : ℤ). unsigned_abs z ≤ 2 ^ 41)
    (get_or_from_slice_get c.args.numbers.now c.loop-column.column c.at.result.now (pos 0) c.at.ensures.value) small))
    c.loop-column.invariant c.in_ok-push.ensures.ok
