use Rattle.std.proofs.Common.{◌≤ℤ◌, ◌<ℤ◌, ◌+ℤ◌, ℤ, pos, length, FitsSigned, rules, subst}
use Rattle.std.proofs.lemmas.Int.{to_z-of_z}
use Rattle.std.specs.Int.{w128}
use Rattle.rv_rows.specs.Rows.{row_at}
use Rattle.rv_boxes.proofs.Shutting.{high_holds, low_fails, above_refutes}
use Rattle.rv_boxes.proofs.shut.above.Goals as goal

pub returns-then-not-is_negative-clause-none : goal.returns-then-not-is_negative-clause-none
returns-then-not-is_negative-clause-none c =
    let fits : FitsSigned w128 c.bound_at.result = search rules in
    let peak_fits : FitsSigned w128 c.args.peak.now.bound = search rules in
    let a = simp to_z-of_z at c.if-not-is_negative.ensures in
    let h : pos 0 ≤ℤ ((row_at c.args.premises.now c.args.premise).bound +ℤ c.args.peak.now.bound) = subst
    (λ (z : ℤ). pos 0 ≤ℤ (z +ℤ c.args.peak.now.bound)) c.bound_at.ensures.value a in
    high_holds (length c.args.ends.now) c.args.premises.now c.args.premise c.args.numbers.now c.requires.numbers c.args.peak.now c.requires.peak h

pub returns-clause-some : goal.returns-clause-some
returns-clause-some c =
    let fits : FitsSigned w128 c.bound_at.result = search rules in
    let peak_fits : FitsSigned w128 c.args.peak.now.bound = search rules in
    let a = simp to_z-of_z at c.if-not-is_negative.ensures in
    let h : ((row_at c.args.premises.now c.args.premise).bound +ℤ c.args.peak.now.bound) <ℤ pos 0 = subst
    (λ (z : ℤ). (z +ℤ c.args.peak.now.bound) <ℤ pos 0) c.bound_at.ensures.value a in (
      above_refutes (length c.args.ends.now) c.args.premises.now c.args.premise c.args.numbers.now c.requires.numbers c.args.peak.now c.requires.peak
          h c.in_ok-weights.weights c.requires.there c.requires.few c.in_ok-weights.ensures,
      low_fails (length c.args.ends.now) c.args.premises.now c.args.premise c.args.numbers.now c.requires.numbers c.args.peak.now c.requires.peak h,
    )
