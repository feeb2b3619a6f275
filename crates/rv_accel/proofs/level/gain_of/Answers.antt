use Rattle.std.proofs.Common.{◌≡◌, ◌+◌, ◌<◌, ◌≤◌, ◌^◌, pos, FitsSigned, to_z, rules, arith, length, ◌∙◌, ap, take}
use Rattle.std.proofs.{lemmas.Int.to_z-of_z, lemmas.Option.get_or_from_slice_get, Math.Seq.take-length}
use Rattle.std.specs.{Int.w128, Int.RustNames.unsigned_abs}
use Rattle.rv_rows.specs.{Rows.dot, Forms.number}
use Rattle.rv_poly.proofs.EliminateLemmas.{number_within}
use Rattle.rv_accel.specs.Turns.{magnitude}
use Rattle.rv_accel.proofs.LevelLemmas.{gain-more, step-small, step-room, magnitude-take, magnitude-at, magnitude-next}
use Rattle.rv_accel.proofs.level.gain_of.Goals as goal

pub plus_product-sum-requires : goal.plus_product-sum-requires
plus_product-sum-requires c =
    let t_fits : FitsSigned w128 c.at.result.now = search rules in
    let x_fits : FitsSigned w128 c.number_at.result = search rules in
    let inside : c.loop-column.column < length c.args.steps.now = omega (arith, c.len-column-end.ensures) in
    let total = c.requires.total in
    let so_far = magnitude-take c.args.steps.now c.loop-column.column in
    let t_is : number c.loop-column.column c.args.steps.now ≡ c.at.result.now = get_or_from_slice_get c.args.steps.now c.loop-column.column
    c.at.result.now (pos 0)
    c.at.ensures.value in
    let here : unsigned_abs c.at.result.now ≤ magnitude c.args.steps.now = rw t_is at (magnitude-at c.args.steps.now c.loop-column.column inside) in
    let x_small : unsigned_abs c.number_at.result ≤ 2 ^ 30 = rw c.number_at.ensures
    (number_within (2 ^ 30) c.args.row.now.coefficients c.requires.row.coefficients c.loop-column.column) in
    simp to_z-of_z (step-room (magnitude (take c.loop-column.column c.args.steps.now)) (to_z w128 c.loop-column.sum-bits) c.at.result.now c.number_at.result
    (omega arith) c.loop-column.invariant.small (omega arith) x_small)

pub loop-column-preserved : goal.loop-column-preserved
loop-column-preserved c =
    let t_fits : FitsSigned w128 c.at.result.now = search rules in
    let x_fits : FitsSigned w128 c.number_at.result = search rules in
    let sum_fits : FitsSigned w128 c.plus_product-sum.result = search rules in
    let inside : c.loop-column.column < length c.args.steps.now = omega (arith, c.len-column-end.ensures) in
    let t_is : number c.loop-column.column c.args.steps.now ≡ c.at.result.now = get_or_from_slice_get c.args.steps.now c.loop-column.column
    c.at.result.now (pos 0)
    c.at.ensures.value in
    let more : magnitude (take (c.loop-column.column + 1) c.args.steps.now) ≡ magnitude
    (take c.loop-column.column c.args.steps.now) + unsigned_abs c.at.result.now =
    rw t_is at (magnitude-next c.args.steps.now c.loop-column.column inside) in
    let x_small : unsigned_abs c.number_at.result ≤ 2 ^ 30 = rw c.number_at.ensures
    (number_within (2 ^ 30) c.args.row.now.coefficients c.requires.row.coefficients c.loop-column.column) in
    let is = simp to_z-of_z at c.plus_product-sum.ensures in
    simp to_z-of_z (record {
      sum = gain-more c.args.steps.now c.args.row.now.coefficients c.loop-column.column (to_z w128 c.loop-column.sum-bits) c.at.result.now c.number_at.result
          c.plus_product-sum.result inside t_is c.number_at.ensures c.loop-column.invariant.sum is;
      small = step-small (magnitude (take c.loop-column.column c.args.steps.now)) (magnitude (take (c.loop-column.column + 1) c.args.steps.now))
          (to_z w128 c.loop-column.sum-bits) c.at.result.now c.number_at.result c.plus_product-sum.result c.loop-column.invariant.small more x_small is;
    })

pub returns-clause-value : goal.returns-clause-value
returns-clause-value c =
    let past = c.loop-column-test.false in
    let last = c.loop-column.auto.column-end in
    let size = c.len-column-end.ensures in
    let e : c.loop-column.column ≡ length c.args.steps.now = omega arith in
    c.loop-column.invariant.sum ∙ ap (λ n. dot c.args.row.now.coefficients (take n c.args.steps.now)) e
    ∙ ap (λ ts. dot c.args.row.now.coefficients ts) (take-length c.args.steps.now)

pub returns-clause-small : goal.returns-clause-small
returns-clause-small c =
    let x = magnitude-take c.args.steps.now c.loop-column.column in
    let s = c.loop-column.invariant.small in
    let t = c.requires.total in
    omega arith
