use Rattle.std.proofs.lemmas.Int.{to_z-of_z}
use Rattle.rv_poly.proofs.WholeLemmas.{product-fits}
use Rattle.rv_poly.proofs.sides.add_product.Goals as goal

pub overflow_mul-product : goal.overflow_mul-product
overflow_mul-product c =
    let by_fits = c.ranges.by in
    let number_fits = c.ranges.number in
    simp to_z-of_z (product-fits c.args.by c.args.number c.requires.by c.requires.number)

pub returns : goal.returns
returns c =
    let sum_fits = c.ranges.sum in
    let by_fits = c.ranges.by in
    let number_fits = c.ranges.number in
    let product = product-fits c.args.by c.args.number c.requires.by c.requires.number in
    simp to_z-of_z at c.checked_add.ensures
