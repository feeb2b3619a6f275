use Rattle.std.proofs.Common.{rules, FitsSigned, ◌<ℤ◌, ℤ, subst, sym, ◌∙◌}
use Rattle.std.proofs.{lemmas.Int.to_z-of_z, lemmas.Option.same_Some, lemmas.Option.none-some}
use Rattle.std.specs.Int.{w128}
use Rattle.rv_ends.specs.Thresholds.{IsLeastAbove}
use Rattle.rv_ends.proofs.Rising.{skips, keeps, takes}
use Rattle.rv_ends.proofs.thresholds.with_threshold.Goals as goal

pub returns-then-is_below : goal.returns-then-is_below
returns-then-is_below c before h =
    let value_fits : FitsSigned w128 c.args.value = search rules in
    let threshold_fits : FitsSigned w128 c.args.threshold = search rules in
    let l = simp to_z-of_z at c.if-is_below.ensures in
    skips before c.args.value c.args.threshold c.args.best l h

pub returns-then-is_below-2 : goal.returns-then-is_below-2
returns-then-is_below-2 c before h =
    let value_fits : FitsSigned w128 c.args.value = search rules in
    let threshold_fits : FitsSigned w128 c.args.threshold = search rules in
    let old_fits : FitsSigned w128 c.in-Some.old = search rules in
    let l = simp to_z-of_z at c.if-is_below.ensures in
    let m = simp to_z-of_z at c.if-is_below-2.ensures in
    simp to_z-of_z (takes before c.args.value c.args.threshold c.args.best l (λ b e. subst (λ (z : ℤ). c.args.threshold <ℤ z)
    (same_Some c.in-Some.old b (sym c.in-Some.is ∙ e)) m) h)

pub returns-else-is_below-2 : goal.returns-else-is_below-2
returns-else-is_below-2 c before h =
    let value_fits : FitsSigned w128 c.args.value = search rules in
    let threshold_fits : FitsSigned w128 c.args.threshold = search rules in
    let old_fits : FitsSigned w128 c.in-Some.old = search rules in
    let m = simp to_z-of_z at c.if-is_below-2.ensures in
    simp to_z-of_z (keeps before c.args.value c.args.threshold c.in-Some.old m (subst (IsLeastAbove before c.args.value) c.in-Some.is h))

pub returns-in-None : goal.returns-in-None
returns-in-None c before h =
    let value_fits : FitsSigned w128 c.args.value = search rules in
    let threshold_fits : FitsSigned w128 c.args.threshold = search rules in
    let l = simp to_z-of_z at c.if-is_below.ensures in
    simp to_z-of_z (takes before c.args.value c.args.threshold c.args.best l (λ b e. absurd (none-some b (sym c.in-None.is ∙ e))) h)
