use Rattle.std.proofs.{Common.rules, Common.◌*ℤ◌, Common.FitsSigned, lemmas.Int.to_z-of_z}
use Rattle.std.specs.Int.{w128}
use Rattle.rv_rows.proofs.{IntLemmas.fits_below, FormLemmas.multiple_value}
use Rattle.rv_rows.proofs.linear.Form.scale.Goals as goal

pub returns-clause-at_points : goal.returns-clause-at_points
returns-clause-at_points c =
    let self_fits : FitsSigned w128 c.args.self.now.constant = search rules in
    let by_fits : FitsSigned w128 c.args.by = c.ranges.by in
    let product_fits : FitsSigned w128 (c.args.by *ℤ c.args.self.now.constant) = fits_below _ c.requires.constant in
    let products = simp to_z-of_z at c.in_ok-coefficients.ensures.products in
    simp to_z-of_z (multiple_value c.args.by c.args.self.now c.in_ok-coefficients.coefficients products)
