use Rattle.std.proofs.Common.{◌∙◌, pos, negsuc, rules, arith, FitsSigned, sym, ap, subst}
use Rattle.std.proofs.lemmas.Int.{to_z-of_z}
use Rattle.std.specs.Int.{w128}
use Rattle.rv_rows.specs.{declared.linear.Row.Row, Rows.coefficient, Rows.row_at}
use Rattle.rv_proofs.specs.Boxes.{HasOneColumn}
use Rattle.rv_boxes.specs.{declared.ends.End.End, Ends.IsOnlyColumn, Ends.end_at}
use Rattle.rv_boxes.proofs.{Numbers.row_read, Numbers.end_read, Closest.ends_none, Closest.ends_outside, Closest.ends_taken, Closest.end_there}
use Rattle.rv_boxes.proofs.ends.take_premise.Goals as goal

pub returns-in_default : goal.returns-in_default
returns-in_default c =
    let row = row_read c.args.premises.now c.args.premise c.at-row.result.now c.at-row.ensures.value in
    let none = rw c.in_default.is at c.only_column.ensures.none in
    ends_none c.args.premises.now c.args.premise c.args.ends.now c.requires.ends (λ one. none (subst (λ (r : Row). HasOneColumn r) row one))

pub end_with-next-requires-clause-low : goal.end_with-next-requires-clause-low
end_with-next-requires-clause-low c p is =
    let was = end_read c.args.ends.now c.in-Some.column c.at-end.result.now c.at-end.ensures.value in
    let inside = c.requires.ends.low c.in-Some.column (omega (arith, c.len.ensures, c.if-column-len.true)) in
    end_there c.args.premises.now c.args.premise c.in-Some.column (negsuc 0) (end_at c.args.ends.now c.in-Some.column).low inside c.requires.there p
    (ap (λ (x : End). x.low) was ∙ is)

pub end_with-next-requires-clause-high : goal.end_with-next-requires-clause-high
end_with-next-requires-clause-high c p is =
    let was = end_read c.args.ends.now c.in-Some.column c.at-end.result.now c.at-end.ensures.value in
    let inside = c.requires.ends.high c.in-Some.column (omega (arith, c.len.ensures, c.if-column-len.true)) in
    end_there c.args.premises.now c.args.premise c.in-Some.column (pos 1) (end_at c.args.ends.now c.in-Some.column).high inside c.requires.there p
    (ap (λ (x : End). x.high) was ∙ is)

pub returns-then-column-len : goal.returns-then-column-len
returns-then-column-len c =
    let fits : FitsSigned w128 c.number_at-number.result = search rules in
    let row = row_read c.args.premises.now c.args.premise c.at-row.result.now c.at-row.ensures.value in
    let was = end_read c.args.ends.now c.in-Some.column c.at-end.result.now c.at-end.ensures.value in
    let only : IsOnlyColumn (row_at c.args.premises.now c.args.premise) c.in-Some.column = subst (λ (r : Row). IsOnlyColumn r c.in-Some.column) (sym row)
    c.in-Some.ensures.some in
    let high = simp to_z-of_z at c.end_with-next.ensures.high in
    let low = simp to_z-of_z at c.end_with-next.ensures.low in
    rw c.set.ensures (ends_taken c.args.premises.now c.args.premise c.args.ends.now c.requires.ends c.in-Some.column only
    (omega (arith, c.len.ensures, c.if-column-len.true)) c.number_at-number.result
    (c.number_at-number.ensures ∙ ap (λ (r : Row). coefficient c.in-Some.column r) (sym row)) c.at-end.result.now c.end_with-next.result was high low)

pub returns-else-column-len : goal.returns-else-column-len
returns-else-column-len c =
    let row = row_read c.args.premises.now c.args.premise c.at-row.result.now c.at-row.ensures.value in
    ends_outside c.args.premises.now c.args.premise c.args.ends.now c.requires.ends c.in-Some.column
    (subst (λ (r : Row). IsOnlyColumn r c.in-Some.column) (sym row) c.in-Some.ensures.some) (omega (arith, c.len.ensures, c.if-column-len.false))
