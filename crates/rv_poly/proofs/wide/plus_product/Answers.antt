use Rattle.std.proofs.lemmas.Int.{to_z-of_z}
use Rattle.rv_rows.proofs.IntLemmas.{fits_product, fits_plus}
use Rattle.rv_poly.proofs.wide.plus_product.Goals as goal

pub returns : goal.returns
returns c =
    let sum_fits = c.ranges.sum in
    let by_fits = c.ranges.by in
    let number_fits = c.ranges.number in
    let product_fits = fits_product c.args.sum c.args.by c.args.number c.requires in
    let all_fits = fits_plus c.args.sum c.args.by c.args.number c.requires in
    simp to_z-of_z
