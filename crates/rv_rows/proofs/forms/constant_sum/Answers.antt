use Rattle.std.proofs.{Common.◌<◌, Common.length, Common.refl, Common.rules, Common.arith, Common.FitsSigned, Common.to_z, lemmas.Int.to_z-of_z}
use Rattle.std.specs.Int.{w128}
use Rattle.rv_rows.proofs.FormLemmas.{form-room, form-kept}
use Rattle.rv_rows.proofs.forms.constant_sum.Goals as goal

pub plus_product-sum-requires : goal.plus_product-sum-requires
plus_product-sum-requires c =
    let c_fits : FitsSigned w128 c.at-coefficient.result.now = search rules in
    let x_fits : FitsSigned w128 c.at-form.result.now.constant = search rules in
    let inside : c.loop-place.place < length c.args.coefficients.now = omega (arith, c.len-place-end.ensures) in
    simp to_z-of_z (form-room (λ f. f.constant) c.args.coefficients.now c.args.forms.now c.loop-place.place (to_z w128 c.loop-place.sum-bits)
    c.at-coefficient.result.now c.at-form.result.now c.requires.same inside c.at-coefficient.ensures.value c.at-form.ensures.value
    c.at-form.result.now.constant refl c.loop-place.invariant c.requires.room)

pub loop-place-preserved : goal.loop-place-preserved
loop-place-preserved c =
    let c_fits : FitsSigned w128 c.at-coefficient.result.now = search rules in
    let x_fits : FitsSigned w128 c.at-form.result.now.constant = search rules in
    let sum_fits : FitsSigned w128 c.plus_product-sum.result = search rules in
    let inside : c.loop-place.place < length c.args.coefficients.now = omega (arith, c.len-place-end.ensures) in
    let is = simp to_z-of_z at c.plus_product-sum.ensures in
    simp to_z-of_z (form-kept (λ f. f.constant) c.args.coefficients.now c.args.forms.now c.loop-place.place (to_z w128 c.loop-place.sum-bits)
    c.at-coefficient.result.now c.at-form.result.now c.requires.same inside c.at-coefficient.ensures.value c.at-form.ensures.value
    c.at-form.result.now.constant c.plus_product-sum.result refl is c.loop-place.invariant)
