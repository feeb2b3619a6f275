use Rattle.std.proofs.lemmas.Int.{to_z-of_z}
use Rattle.rv_poly.proofs.EliminateLemmas.{product_fits, products_fit}
use Rattle.rv_poly.proofs.eliminate.two_products.Goals as goal

pub overflow_add-result : goal.overflow_add-result
overflow_add-result c =
    let by_fits = c.ranges.by in
    let first_fits = c.ranges.first in
    let with_fits = c.ranges.with in
    let second_fits = c.ranges.second in
    let one = product_fits c.args.by c.args.first c.requires.first in
    let other = product_fits c.args.with c.args.second c.requires.second in
    simp to_z-of_z (products_fit c.args.by c.args.first c.args.with c.args.second c.requires.first c.requires.second)

pub returns : goal.returns
returns c =
    let by_fits = c.ranges.by in
    let first_fits = c.ranges.first in
    let with_fits = c.ranges.with in
    let second_fits = c.ranges.second in
    let one = product_fits c.args.by c.args.first c.requires.first in
    let other = product_fits c.args.with c.args.second c.requires.second in
    let both = products_fit c.args.by c.args.first c.args.with c.args.second c.requires.first c.requires.second in
    simp to_z-of_z
