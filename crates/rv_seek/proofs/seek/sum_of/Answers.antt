use Rattle.std.proofs.{Common.◌≡◌, Common.pos, Common.get_or, Common.[], Common.sym, Common.FitsSigned, Common.rules, Common.to_z, lemmas.Int.to_z-of_z}
use Rattle.std.proofs.lemmas.Option.{get_or_from_slice_get}
use Rattle.std.specs.Int.{w128}
use Rattle.rv_rows.specs.Rows.{row_at}
use Rattle.rv_seek.proofs.FloorLemmas.{sum_step}
use Rattle.rv_seek.proofs.seek.sum_of.Goals as goal

pub loop-weight-preserved : goal.loop-weight-preserved
loop-weight-preserved c =
    let by_fits : FitsSigned w128 (get_or c.as_slice-weight-items.result.now c.loop-weight.weight-index (record { premise = 0; by = pos 0 })).by = search
    rules in
    let bound_fits : FitsSigned w128 c.in_ok-row.row.now.bound = search rules in
    let product_fits : FitsSigned w128 c.in_ok-product.product = search rules in
    let sum_fits : FitsSigned w128 c.in_ok-sum.sum = search rules in
    let product = simp to_z-of_z at c.in_ok-product.ensures in
    let sum = simp to_z-of_z at c.in_ok-sum.ensures in
    let here : row_at c.args.premises.now (get_or c.as_slice-weight-items.result.now c.loop-weight.weight-index (record { premise = 0; by = pos 0 })).premise
    ≡ c.in_ok-row.row.now = get_or_from_slice_get c.args.premises.now _ c.in_ok-row.row.now (record { coefficients = []; bound = pos 0 })
    (sym c.in_ok-row.ensures.value) in
    simp to_z-of_z (sum_step c.args.premises.now c.args.multipliers.now.weights c.as_slice-weight-items.result.now c.loop-weight.weight-index
    (record { premise = 0; by = pos 0 }) (to_z w128 c.loop-weight.sum-bits) c.in_ok-product.product c.in_ok-sum.sum c.in_ok-row.row.now
    c.as_slice-weight-items.ensures c.loop-weight-test.true here product.1 sum.1 c.loop-weight.invariant)
