use Rattle.std.proofs.{Common.rules, Common.◌+ℤ◌, Common.FitsSigned, lemmas.Int.to_z-of_z}
use Rattle.std.specs.Int.{w128}
use Rattle.rv_rows.proofs.{IntLemmas.fits_below, FormLemmas.sum_value}
use Rattle.rv_rows.proofs.linear.Form.add.Goals as goal

pub returns-clause-at_points : goal.returns-clause-at_points
returns-clause-at_points c =
    let self_fits : FitsSigned w128 c.args.self.now.constant = search rules in
    let other_fits : FitsSigned w128 c.args.other.now.constant = search rules in
    let sum_fits : FitsSigned w128 (c.args.self.now.constant +ℤ c.args.other.now.constant) = fits_below _ c.requires.room.constant in
    simp to_z-of_z (sum_value c.args.self.now c.args.other.now c.in_ok-coefficients.coefficients c.in_ok-coefficients.ensures.sums)
