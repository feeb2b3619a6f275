use Rattle.std.proofs.Common.{◌≡◌, ◌∙◌, slice_get, ap, sym, subst, ⊎_elim, arith}
use Rattle.std.proofs.{lemmas.Bool.cases_lt, lemmas.Option.same_Some}
use Rattle.rv_rows.specs.{declared.linear.Row.Row, declared.farkas.Multipliers.Multipliers, Multipliers.Proves}
use Rattle.rv_accept.proofs.showing.first_untrue.Goals as goal

pub loop-row-preserved : goal.loop-row-preserved
loop-row-preserved c = λ updates k r m low at by. ⊎_elim (λ less. c.loop-row.invariant updates k r m less at by)
    (λ ge. let e : k ≡ c.loop-row.row = omega (arith, low) in
    let row : c.at.result.now ≡ r = same_Some c.at.result.now r (sym c.at.ensures.value ∙ ap (λ n. slice_get c.args.wanted.now n) (sym e) ∙ at) in
    let proof : c.at-in-loop-row.result.now ≡ m = same_Some c.at-in-loop-row.result.now m
    (sym c.at-in-loop-row.ensures.value ∙ ap (λ n. slice_get c.args.by.now n) (sym e) ∙ by) in
    let h = rw c.if-not-is_proved.false at c.is_proved.ensures in
    subst (λ (x : Row). Proves c.args.premises.now x m) row (subst (λ (x : Multipliers). Proves c.args.premises.now c.at.result.now x) proof h))
    (cases_lt k c.loop-row.row)

pub returns : goal.returns
returns c = λ updates k r m low at by. c.loop-row.invariant updates k r m (omega (arith, low, c.len-row-end.ensures)) at by
