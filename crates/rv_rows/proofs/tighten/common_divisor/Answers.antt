use Rattle.std.proofs.Common.{◌≡◌, ◌≤◌, length, arith, pos, get_or, ap, ◌∙◌, rules, FitsSigned}
use Rattle.std.proofs.lemmas.Int.{to_z-of_z}
use Rattle.std.specs.{Int.w128, Int.RustNames.unsigned_abs}
use Rattle.rv_rows.proofs.TightLemmas.{DividesUpto-more, DividesUpto-all, DividesUpto-none}
use Rattle.rv_rows.proofs.tighten.common_divisor.Goals as goal

pub loop-coefficient-init : goal.loop-coefficient-init
loop-coefficient-init c = DividesUpto-none c.args.coefficients.now

pub loop-coefficient-preserved : goal.loop-coefficient-preserved
loop-coefficient-preserved c =
    let fits : FitsSigned w128 (get_or c.as_slice-coefficient-items.result.now c.loop-coefficient.coefficient-index (pos 0)) = search rules in
    let size : c.unsigned_abs.result ≡ unsigned_abs (get_or c.args.coefficients.now c.loop-coefficient.coefficient-index (pos 0)) =
    simp to_z-of_z at c.unsigned_abs.ensures.value
    ∙ ap (λ l. unsigned_abs (get_or l c.loop-coefficient.coefficient-index (pos 0))) c.as_slice-coefficient-items.ensures in
    DividesUpto-more c.loop-coefficient.divisor c.gcd-divisor.result c.args.coefficients.now c.loop-coefficient.coefficient-index c.loop-coefficient.invariant
    (rw size at c.gcd-divisor.ensures)

pub returns : goal.returns
returns c =
    let len : length c.args.coefficients.now ≤ c.loop-coefficient.coefficient-index = omega (arith, ap length c.as_slice-coefficient-items.ensures) in
    DividesUpto-all c.loop-coefficient.divisor c.args.coefficients.now c.loop-coefficient.coefficient-index len c.loop-coefficient.invariant
