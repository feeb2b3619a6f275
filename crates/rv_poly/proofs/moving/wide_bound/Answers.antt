use Rattle.std.proofs.Common.{◌≡◌, ◌<◌, ◌≤◌, ◌^◌, ◌+ℤ◌, ◌*ℤ◌, map, length, FitsSigned, rules, arith}
use Rattle.std.proofs.{lemmas.Int.to_z-of_z}
use Rattle.std.specs.{Int.w128, Int.RustNames.unsigned_abs}
use Rattle.rv_poly.specs.Moves.{whole_of}
use Rattle.rv_poly.proofs.EliminateLemmas.{number_within}
use Rattle.rv_poly.proofs.MovedLemmas.{moved-room, bound-start, bound-more, bound-all, high-more}
use Rattle.rv_poly.proofs.moving.wide_bound.Goals as goal

pub loop-column-init : goal.loop-column-init
loop-column-init c =
    let bound_fits : FitsSigned w128 c.args.row.now.bound = search rules in
    let is : whole_of c.parted-sum.result ≡ c.args.row.now.bound = simp to_z-of_z at c.parted-sum.ensures.value in
    record {
      value = bound-start c.args.row.now.coefficients (map (λ f. f.constant) c.args.updates.now) c.args.row.now.bound (whole_of c.parted-sum.result) is;
      normal = c.parted-sum.ensures.normal;
      high = c.parted-sum.ensures.small;
    }

pub plus_wide-sum-requires-clause-room : goal.plus_wide-sum-requires-clause-room
plus_wide-sum-requires-clause-room c =
    let inside = c.loop-column-test.true in
    let fits = c.len-column-end.type_inv in
    moved-room c.loop-column.column c.loop-column.sum.high (omega arith) c.loop-column.invariant.high

pub plus_wide-sum-requires-clause-small : goal.plus_wide-sum-requires-clause-small
plus_wide-sum-requires-clause-small c =
    let x_fits : FitsSigned w128 c.number_at-by.result = search rules in
    let small : unsigned_abs c.number_at-by.result ≤ 2 ^ 30 = rw c.number_at-by.ensures
    (number_within (2 ^ 30) c.args.row.now.coefficients c.requires.coefficients c.loop-column.column) in
    simp to_z-of_z small

pub loop-column-preserved : goal.loop-column-preserved
loop-column-preserved c =
    let by_fits : FitsSigned w128 c.number_at-by.result = search rules in
    let constant_fits : FitsSigned w128 c.at-form.result.now.constant = search rules in
    let inside : c.loop-column.column < length c.args.updates.now = omega (arith, c.len-column-end.ensures) in
    let is : whole_of c.plus_wide-sum.result ≡ whole_of c.loop-column.sum +ℤ (c.number_at-by.result *ℤ c.at-form.result.now.constant) = simp to_z-of_z at
    c.plus_wide-sum.ensures.value in
    record {
      value = bound-more c.args.row.now.coefficients c.args.updates.now c.loop-column.column c.args.row.now.bound (whole_of c.loop-column.sum)
          c.number_at-by.result (whole_of c.plus_wide-sum.result) c.at-form.result.now inside c.number_at-by.ensures c.at-form.ensures.value
          c.loop-column.invariant.value is;
      normal = c.plus_wide-sum.ensures.normal;
      high = high-more c.loop-column.column c.loop-column.sum.high c.plus_wide-sum.result.high c.loop-column.invariant.high c.plus_wide-sum.ensures.high;
    }

pub returns-clause-value : goal.returns-clause-value
returns-clause-value c =
    let past = c.loop-column-test.false in
    let last = c.loop-column.auto.column-end in
    let size = c.len-column-end.ensures in
    let all : c.loop-column.column ≡ length c.args.updates.now = omega arith in
    bound-all c.args.row.now.coefficients c.args.updates.now c.loop-column.column c.args.row.now.bound (whole_of c.loop-column.sum) all
    c.loop-column.invariant.value
