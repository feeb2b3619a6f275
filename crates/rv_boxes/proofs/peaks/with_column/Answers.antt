use Rattle.std.proofs.Common.{◌≡◌, ◌≤◌, ◌^◌, ◌+ℤ◌, ◌*ℤ◌, ℤ, pos, rules, sym, ap, FitsSigned, ◌∙◌, subst}
use Rattle.std.proofs.lemmas.Int.{to_z-of_z}
use Rattle.std.specs.{Int.w128, Int.RustNames.unsigned_abs}
use Rattle.rv_rows.specs.{Rows.row_at, Forms.number}
use Rattle.rv_boxes.specs.{Ends.end_at, Weighing.IsInserted, Boxed.IsTowards}
use Rattle.rv_boxes.proofs.{Summing.sum_skips, Summing.sum_adds, Summing.turned_from, Numbers.towards_read, Numbers.loose_read, Numbers.number_within}
use Rattle.rv_boxes.proofs.peaks.with_column.Goals as goal

pub returns-then-is_zero-clause-some : goal.returns-then-is_zero-clause-some
returns-then-is_zero-clause-some c =
    let fits : FitsSigned w128 c.number_at-number.result = search rules in
    let z = simp to_z-of_z at c.if-is_zero.ensures in
    sum_skips c.args.premises.now c.requires.premises.0 c.requires.premises.1 c.args.ends.now c.requires.ends c.args.numbers.now c.args.column
    c.requires.column c.args.sum c.requires.sum
    (sym c.number_at-number.ensures ∙ z)

pub with_end-requires-clause-there : goal.with_end-requires-clause-there
with_end-requires-clause-there c =
    let fits : FitsSigned w128 c.number_at-number.result = search rules in
    let t = simp to_z-of_z at c.in-Some.ensures in
    let towards : IsTowards (end_at c.args.ends.now c.args.column) (number c.args.column c.args.numbers.now) c.in-Some.premise = towards_read
    c.args.ends.now c.args.column c.at.result.now c.number_at-number.result _ c.in-Some.premise c.at.ensures.value c.number_at-number.ensures t in
    (turned_from c.args.premises.now c.args.column (number c.args.column c.args.numbers.now) c.in-Some.premise (end_at c.args.ends.now c.args.column)
    (c.requires.ends.each c.args.column c.requires.column) towards).there

pub magnitude-by-requires : goal.magnitude-by-requires
magnitude-by-requires c =
    let fits : FitsSigned w128 c.number_at-number.result = search rules in
    let small : unsigned_abs (number c.args.column c.args.numbers.now) ≤ 2 ^ 41 = number_within c.args.numbers.now c.args.column (2 ^ 41)
    c.requires.sizes c.requires.inside in
    simp to_z-of_z (rw c.number_at-number.ensures small)

pub with_end-requires-clause-by : goal.with_end-requires-clause-by
with_end-requires-clause-by c =
    let fits : FitsSigned w128 c.number_at-number.result = search rules in
    let by_fits : FitsSigned w128 c.magnitude-by.result = search rules in
    let small : unsigned_abs (number c.args.column c.args.numbers.now) ≤ 2 ^ 41 = number_within c.args.numbers.now c.args.column (2 ^ 41)
    c.requires.sizes c.requires.inside in
    let is = simp to_z-of_z at c.magnitude-by.ensures in
    let same : c.magnitude-by.result ≡ pos (unsigned_abs (number c.args.column c.args.numbers.now)) = is
    ∙ ap (λ z. pos (unsigned_abs z)) c.number_at-number.ensures in
    simp to_z-of_z (rw same small)

pub returns-in-Some-clause-some : goal.returns-in-Some-clause-some
returns-in-Some-clause-some c =
    let fits : FitsSigned w128 c.number_at-number.result = search rules in
    let by_fits : FitsSigned w128 c.magnitude-by.result = search rules in
    let t = simp to_z-of_z at c.in-Some.ensures in
    let towards : IsTowards (end_at c.args.ends.now c.args.column) (number c.args.column c.args.numbers.now) c.in-Some.premise = towards_read
    c.args.ends.now c.args.column c.at.result.now c.number_at-number.result _ c.in-Some.premise c.at.ensures.value c.number_at-number.ensures t in
    let small : unsigned_abs (number c.args.column c.args.numbers.now) ≤ 2 ^ 41 = number_within c.args.numbers.now c.args.column (2 ^ 41)
    c.requires.sizes c.requires.inside in
    let is = simp to_z-of_z at c.magnitude-by.ensures in
    let same : c.magnitude-by.result ≡ pos (unsigned_abs (number c.args.column c.args.numbers.now)) = is
    ∙ ap (λ z. pos (unsigned_abs z)) c.number_at-number.ensures in
    let b = simp to_z-of_z at c.in_ok-next-in-Some.ensures.bound in
    let i = simp to_z-of_z at c.in_ok-next-in-Some.ensures.weights in
    sum_adds c.args.premises.now c.requires.premises.0 c.requires.premises.1 c.args.ends.now c.requires.ends c.args.numbers.now c.args.column
    c.requires.column c.args.sum c.requires.sum
    c.in-Some.premise c.in_ok-next-in-Some.next towards small
    (b ∙ ap (λ z. c.args.sum.bound +ℤ (z *ℤ (row_at c.args.premises.now c.in-Some.premise).bound)) same)
    (subst (λ (z : ℤ). IsInserted c.args.sum.weights (record { premise = c.in-Some.premise; by = z }) c.in_ok-next-in-Some.next.weights) same i)

pub returns-clause-none : goal.returns-clause-none
returns-clause-none c =
    let fits : FitsSigned w128 c.number_at-number.result = search rules in
    let t = simp to_z-of_z at c.in-None.ensures in
    loose_read c.args.ends.now c.args.column c.at.result.now c.number_at-number.result _ c.at.ensures.value c.number_at-number.ensures t
