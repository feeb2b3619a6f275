use Rattle.std.proofs.{Common.◌^◌, Common.pos, Common.get_or, Common.refl, Common.FitsSigned, Common.rules, Common.to_z, lemmas.Int.to_z-of_z}
use Rattle.std.specs.Int.{w128}
use Rattle.rv_rows.proofs.RowLemmas.{step_room, step_kept, bound_within}
use Rattle.rv_rows.proofs.farkas.weighted_bound.Goals as goal

pub plus_product-sum-requires : goal.plus_product-sum-requires
plus_product-sum-requires c =
    let by_fits : FitsSigned w128 (get_or c.as_slice-pair-items.result.now c.loop-pair.pair-index (record { premise = 0; by = pos 0 })).by = search rules in
    let number_fits : FitsSigned w128 c.at-row.result.now.bound = search rules in
    simp to_z-of_z
    (step_room (λ r. r.bound) c.args.premises.now c.args.weights.now c.as_slice-pair-items.result.now c.loop-pair.pair-index
    (record { premise = 0; by = pos 0 })
    (to_z w128 c.loop-pair.sum-bits) c.at-row.result.now.bound c.as_slice-pair-items.ensures (bound_within (2 ^ 60) c.args.premises.now c.requires.premises)
    c.requires.weights c.loop-pair-test.true c.loop-pair.invariant.bound c.at-row.result.now c.at-row.ensures.value refl)

pub loop-pair-preserved : goal.loop-pair-preserved
loop-pair-preserved c =
    let by_fits : FitsSigned w128 (get_or c.as_slice-pair-items.result.now c.loop-pair.pair-index (record { premise = 0; by = pos 0 })).by = search rules in
    let number_fits : FitsSigned w128 c.at-row.result.now.bound = search rules in
    let sum_fits : FitsSigned w128 c.plus_product-sum.result = search rules in
    let is = simp to_z-of_z at c.plus_product-sum.ensures in
    let kept = step_kept (λ r. r.bound) c.args.premises.now c.args.weights.now c.as_slice-pair-items.result.now c.loop-pair.pair-index
    (record { premise = 0; by = pos 0 })
    (to_z w128 c.loop-pair.sum-bits) c.at-row.result.now.bound c.as_slice-pair-items.ensures (bound_within (2 ^ 60) c.args.premises.now c.requires.premises)
    c.requires.weights c.loop-pair-test.true c.loop-pair.invariant.bound c.at-row.result.now c.at-row.ensures.value refl
    _ is c.loop-pair.invariant.value in
    simp to_z-of_z (record { value = kept.0; bound = kept.1 })
