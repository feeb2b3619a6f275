use Rattle.std.proofs.Common.{◌≡◌, ◌+ℤ◌, ◌*ℤ◌, ◌^◌, pos, refl, FitsSigned, rules}
use Rattle.std.proofs.lemmas.Int.{to_z-of_z}
use Rattle.std.specs.Int.{w128}
use Rattle.rv_poly.proofs.WideLemmas.{low-room, high-room, step-small, step-fits, step-value, step-high}
use Rattle.rv_poly.proofs.wide.plus_wide.Goals as goal

pub plus_product-requires : goal.plus_product-requires
plus_product-requires c =
    let by_fits = c.ranges.by in
    let sum_fits : FitsSigned w128 c.args.sum.low = search rules in
    let part_fits : FitsSigned w128 c.parted-parts.result.low = search rules in
    simp to_z-of_z (low-room c.args.sum.low c.args.by c.parted-parts.result.low c.requires.normal.low c.requires.normal.high c.requires.small
    c.parted-parts.ensures.normal.low c.parted-parts.ensures.normal.high)

pub plus_product-requires-2 : goal.plus_product-requires-2
plus_product-requires-2 c =
    let by_fits = c.ranges.by in
    let sum_fits : FitsSigned w128 c.args.sum.high = search rules in
    let part_fits : FitsSigned w128 c.parted-parts.result.high = search rules in
    simp to_z-of_z (high-room c.args.sum.high c.args.by c.parted-parts.result.high c.requires.room c.requires.small c.parted-parts.ensures.small)

pub overflow_add-result : goal.overflow_add-result
overflow_add-result c =
    let by_fits = c.ranges.by in
    let high_fits : FitsSigned w128 c.args.sum.high = search rules in
    let part_fits : FitsSigned w128 c.parted-parts.result.high = search rules in
    let middle_fits : FitsSigned w128 c.plus_product-2.result = search rules in
    let carry_fits : FitsSigned w128 c.parted-carry.result.high = search rules in
    let middle : c.plus_product-2.result ≡ c.args.sum.high +ℤ (c.args.by *ℤ c.parted-parts.result.high) = simp to_z-of_z at c.plus_product-2.ensures in
    simp to_z-of_z (step-fits c.args.sum.high c.plus_product-2.result c.parted-carry.result.high c.requires.room
    (step-small c.args.sum.high c.args.by c.parted-parts.result.high c.plus_product-2.result middle c.requires.small c.parted-parts.ensures.small)
    c.parted-carry.ensures.small)

pub returns-clause-high : goal.returns-clause-high
returns-clause-high c =
    let by_fits = c.ranges.by in
    let high_fits : FitsSigned w128 c.args.sum.high = search rules in
    let part_fits : FitsSigned w128 c.parted-parts.result.high = search rules in
    let middle_fits : FitsSigned w128 c.plus_product-2.result = search rules in
    let carry_fits : FitsSigned w128 c.parted-carry.result.high = search rules in
    let middle : c.plus_product-2.result ≡ c.args.sum.high +ℤ (c.args.by *ℤ c.parted-parts.result.high) = simp to_z-of_z at c.plus_product-2.ensures in
    let small = step-small c.args.sum.high c.args.by c.parted-parts.result.high c.plus_product-2.result middle c.requires.small c.parted-parts.ensures.small in
    let all_fits : FitsSigned w128 (c.plus_product-2.result +ℤ c.parted-carry.result.high) = step-fits c.args.sum.high c.plus_product-2.result
    c.parted-carry.result.high c.requires.room small c.parted-carry.ensures.small in
    simp to_z-of_z (step-high c.args.sum.high c.plus_product-2.result c.parted-carry.result.high (c.plus_product-2.result +ℤ c.parted-carry.result.high)
    refl small c.parted-carry.ensures.small)

pub returns-clause-value : goal.returns-clause-value
returns-clause-value c =
    let by_fits = c.ranges.by in
    let number_fits = c.ranges.number in
    let low_fits : FitsSigned w128 c.args.sum.low = search rules in
    let high_fits : FitsSigned w128 c.args.sum.high = search rules in
    let part_fits : FitsSigned w128 c.parted-parts.result.high = search rules in
    let rest_fits : FitsSigned w128 c.parted-parts.result.low = search rules in
    let first_fits : FitsSigned w128 c.plus_product.result = search rules in
    let middle_fits : FitsSigned w128 c.plus_product-2.result = search rules in
    let carry_fits : FitsSigned w128 c.parted-carry.result.high = search rules in
    let left_fits : FitsSigned w128 c.parted-carry.result.low = search rules in
    let low : c.plus_product.result ≡ c.args.sum.low +ℤ (c.args.by *ℤ c.parted-parts.result.low) = simp to_z-of_z at c.plus_product.ensures in
    let middle : c.plus_product-2.result ≡ c.args.sum.high +ℤ (c.args.by *ℤ c.parted-parts.result.high) = simp to_z-of_z at c.plus_product-2.ensures in
    let parts : (pos (2 ^ 96) *ℤ c.parted-parts.result.high) +ℤ c.parted-parts.result.low ≡ c.args.number = simp to_z-of_z at c.parted-parts.ensures.value in
    let carry : (pos (2 ^ 96) *ℤ c.parted-carry.result.high) +ℤ c.parted-carry.result.low ≡ c.plus_product.result = simp to_z-of_z at
    c.parted-carry.ensures.value in
    let small = step-small c.args.sum.high c.args.by c.parted-parts.result.high c.plus_product-2.result middle c.requires.small c.parted-parts.ensures.small in
    let all_fits : FitsSigned w128 (c.plus_product-2.result +ℤ c.parted-carry.result.high) = step-fits c.args.sum.high c.plus_product-2.result
    c.parted-carry.result.high c.requires.room small c.parted-carry.ensures.small in
    simp to_z-of_z (step-value (pos (2 ^ 96)) c.args.sum.high c.args.sum.low c.args.by c.args.number c.parted-parts.result.high c.parted-parts.result.low
    c.plus_product.result c.parted-carry.result.high c.parted-carry.result.low c.plus_product-2.result
    (c.plus_product-2.result +ℤ c.parted-carry.result.high) parts low carry middle refl)
