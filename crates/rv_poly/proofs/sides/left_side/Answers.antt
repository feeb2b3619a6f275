use Rattle.std.proofs.Common.{◌≡◌, ◌<◌, ◌≤◌, ◌^◌, pos, FitsSigned, length, rules, arith, to_z}
use Rattle.std.proofs.{lemmas.Int.to_z-of_z, lemmas.Option.get_or_from_slice_get}
use Rattle.std.specs.{Int.w128, Int.RustNames.unsigned_abs}
use Rattle.rv_rows.specs.Forms.{number}
use Rattle.rv_poly.proofs.EliminateLemmas.{number_within}
use Rattle.rv_poly.proofs.WholeLemmas.{replay-abs, replay-number, side-more, side-fits, side-all}
use Rattle.rv_poly.proofs.sides.left_side.Goals as goal

pub add_product-requires-clause-by : goal.add_product-requires-clause-by
add_product-requires-clause-by c =
    let x_fits : FitsSigned w128 c.at-by.result.now = search rules in
    let x_is : number c.loop-place.place c.args.coefficients.now ≡ c.at-by.result.now =
    get_or_from_slice_get c.args.coefficients.now c.loop-place.place c.at-by.result.now (pos 0) c.at-by.ensures.value in
    let small : unsigned_abs c.at-by.result.now ≤ 2 ^ 30 = rw x_is at (number_within (2 ^ 30) c.args.coefficients.now c.requires.coefficients
    c.loop-place.place) in
    simp to_z-of_z small

pub add_product-requires-clause-number : goal.add_product-requires-clause-number
add_product-requires-clause-number c =
    let y_fits : FitsSigned w128 c.number_at-number.result = search rules in
    let small : unsigned_abs c.number_at-number.result ≤ 2 ^ 63 =
    rw c.number_at-number.ensures (replay-abs (number c.loop-place.place c.args.point.now) (replay-number c.args.point.now c.requires.point c.loop-place.place))
    in
    simp to_z-of_z small

pub returns-in-None-clause-found : goal.returns-in-None-clause-found
returns-in-None-clause-found c single =
    let x_fits : FitsSigned w128 c.at-by.result.now = search rules in
    let y_fits : FitsSigned w128 c.number_at-number.result = search rules in
    let x_is : number c.loop-place.place c.args.coefficients.now ≡ c.at-by.result.now =
    get_or_from_slice_get c.args.coefficients.now c.loop-place.place c.at-by.result.now (pos 0) c.at-by.ensures.value in
    let inside : c.loop-place.place < length c.args.coefficients.now = omega (arith, c.len-place-end.ensures) in
    let none = simp to_z-of_z at (rw c.in-None.is at c.add_product.ensures) in
    absurd (none (side-fits c.args.coefficients.now c.args.point.now c.loop-place.place (to_z w128 c.loop-place.sum-bits) c.at-by.result.now
    c.number_at-number.result
    inside c.loop-place.invariant x_is c.number_at-number.ensures single c.requires.coefficients c.requires.point))

pub loop-place-preserved : goal.loop-place-preserved
loop-place-preserved c =
    let x_fits : FitsSigned w128 c.at-by.result.now = search rules in
    let y_fits : FitsSigned w128 c.number_at-number.result = search rules in
    let x_is : number c.loop-place.place c.args.coefficients.now ≡ c.at-by.result.now =
    get_or_from_slice_get c.args.coefficients.now c.loop-place.place c.at-by.result.now (pos 0) c.at-by.ensures.value in
    let inside : c.loop-place.place < length c.args.coefficients.now = omega (arith, c.len-place-end.ensures) in
    let some = simp to_z-of_z at (rw c.in-Some.is at c.add_product.ensures) in
    let more_fits : FitsSigned w128 c.in-Some.more = search rules in
    simp to_z-of_z (side-more c.args.coefficients.now c.args.point.now c.loop-place.place (to_z w128 c.loop-place.sum-bits) c.at-by.result.now
    c.number_at-number.result
    c.in-Some.more inside c.loop-place.invariant x_is c.number_at-number.ensures some.1)

pub returns-clause-exact : goal.returns-clause-exact
returns-clause-exact c =
    let past = c.loop-place-test.false in
    let all : length c.args.coefficients.now ≤ c.loop-place.place = omega (arith, c.len-place-end.ensures) in
    side-all c.args.coefficients.now c.args.point.now c.loop-place.place (to_z w128 c.loop-place.sum-bits) all c.loop-place.invariant
