use Rattle.std.proofs.{Common.◌^◌, Common.pos, Common.get_or, Common.FitsSigned, Common.rules, Common.to_z, lemmas.Int.to_z-of_z}
use Rattle.std.specs.Int.{w128}
use Rattle.rv_rows.specs.Rows.{coefficient}
use Rattle.rv_rows.proofs.RowLemmas.{step_room, step_kept, coefficient_within}
use Rattle.rv_rows.proofs.farkas.weighted_coefficient.Goals as goal

pub plus_product-sum-requires : goal.plus_product-sum-requires
plus_product-sum-requires c =
    let by_fits : FitsSigned w128 (get_or c.as_slice-weight-items.result.now c.loop-weight.weight-index (record { premise = 0; by = pos 0 })).by = search
    rules in
    let number_fits : FitsSigned w128 c.number_at.result = search rules in
    simp to_z-of_z
    (step_room (coefficient c.args.column) c.args.premises.now c.args.weights.now c.as_slice-weight-items.result.now c.loop-weight.weight-index
    (record { premise = 0; by = pos 0 })
    (to_z w128 c.loop-weight.sum-bits) c.number_at.result c.as_slice-weight-items.ensures
    (λ j. coefficient_within (2 ^ 60) c.args.premises.now c.requires.premises j c.args.column)
    c.requires.weights c.loop-weight-test.true c.loop-weight.invariant.bound c.at-row.result.now c.at-row.ensures.value c.number_at.ensures)

pub loop-weight-preserved : goal.loop-weight-preserved
loop-weight-preserved c =
    let by_fits : FitsSigned w128 (get_or c.as_slice-weight-items.result.now c.loop-weight.weight-index (record { premise = 0; by = pos 0 })).by = search
    rules in
    let number_fits : FitsSigned w128 c.number_at.result = search rules in
    let sum_fits : FitsSigned w128 c.plus_product-sum.result = search rules in
    let is = simp to_z-of_z at c.plus_product-sum.ensures in
    let kept = step_kept (coefficient c.args.column) c.args.premises.now c.args.weights.now c.as_slice-weight-items.result.now c.loop-weight.weight-index
    (record { premise = 0; by = pos 0 })
    (to_z w128 c.loop-weight.sum-bits) c.number_at.result c.as_slice-weight-items.ensures
    (λ j. coefficient_within (2 ^ 60) c.args.premises.now c.requires.premises j c.args.column)
    c.requires.weights c.loop-weight-test.true c.loop-weight.invariant.bound c.at-row.result.now c.at-row.ensures.value c.number_at.ensures
    _ is c.loop-weight.invariant.value in
    simp to_z-of_z (record { value = kept.0; bound = kept.1 })
