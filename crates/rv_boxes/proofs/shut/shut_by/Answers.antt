use Rattle.std.proofs.Common.{arith, ap, length, sym, subst}
use Rattle.rv_rows.specs.{declared.linear.Row.Row, Rows.row_at}
use Rattle.rv_proofs.specs.Boxes.{HasOneColumn}
use Rattle.rv_boxes.proofs.{Closest.only_has_one, Tops.some_boxed, Shutting.free_holds, Numbers.negated_read, Numbers.row_read}
use Rattle.rv_boxes.proofs.shut.shut_by.Goals as goal

pub returns-in-Some-clause-none : goal.returns-in-Some-clause-none
returns-in-Some-clause-none c =
    let rows = c.args.premises.now in
    let (point, boxed) = some_boxed rows (length c.args.ends.now) c.requires.premises c.args.ends.now c.requires.ends c.requires.uncrossed in
    let one : HasOneColumn (row_at rows c.args.premise) = subst (λ (r : Row). HasOneColumn r)
    (sym (row_read rows c.args.premise c.at.result.now c.at.ensures.value)) (only_has_one c.at.result.now c.in-Some.field-0 c.in-Some.ensures.some) in
    (point, boxed, boxed.holds c.args.premise c.requires.there one)

pub above-requires-clause-few : goal.above-requires-clause-few
above-requires-clause-few c =
    let row = row_read c.args.premises.now c.args.premise c.at-2.result.now c.at-2.ensures.value in
    let wide = c.requires.premises.wide c.args.premise c.requires.there in
    omega (arith, wide, c.in_ok-numbers.ensures.width, ap (λ (r : Row). length r.coefficients) row)

pub above-requires-clause-numbers : goal.above-requires-clause-numbers
above-requires-clause-numbers c =
    negated_read c.args.premises.now c.args.premise c.at-2.result.now c.in_ok-numbers.numbers c.at-2.ensures.value c.in_ok-numbers.ensures.each

pub returns-clause-none : goal.returns-clause-none
returns-clause-none c =
    let free = rw c.in-None.is at c.in_ok-peak.ensures.none in
    free_holds (length c.args.ends.now) c.args.premises.now c.args.premise c.in_ok-numbers.numbers
    (negated_read c.args.premises.now c.args.premise c.at-2.result.now c.in_ok-numbers.numbers c.at-2.ensures.value c.in_ok-numbers.ensures.each) free
