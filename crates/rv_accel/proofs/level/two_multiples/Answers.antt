use Rattle.std.proofs.Common.{◌≡◌, ℕ, ◌<◌, ◌≤◌, ◌^◌, ◌+ℤ◌, ◌*ℤ◌, pos, FitsSigned, rules, arith, ◌++◌, ◌∷◌, []}
use Rattle.std.proofs.lemmas.Int.{to_z-of_z}
use Rattle.std.specs.{Int.w128, Int.RustNames.unsigned_abs}
use Rattle.rv_rows.specs.Forms.{number}
use Rattle.rv_rows.proofs.FormLemmas.{pushed, length-pushed}
use Rattle.rv_poly.proofs.EliminateLemmas.{number_within}
use Rattle.rv_accel.proofs.LevelLemmas.{second-room, two-sum}
use Rattle.rv_accel.proofs.level.two_multiples.Goals as goal

pub plus_product-sum-requires : goal.plus_product-sum-requires
plus_product-sum-requires c =
    let by_fits = c.ranges.by in
    let with_fits = c.ranges.with in
    let x_fits : FitsSigned w128 c.number_at.result = search rules in
    let y_fits : FitsSigned w128 c.number_at-in-loop-column.result = search rules in
    let p_fits : FitsSigned w128 c.plus_product-product.result = search rules in
    let x_small : unsigned_abs c.number_at.result ≤ 2 ^ 30 = rw c.number_at.ensures
    (number_within (2 ^ 30) c.args.first.now c.requires.first c.loop-column.column) in
    let y_small : unsigned_abs c.number_at-in-loop-column.result ≤ 2 ^ 30 = rw c.number_at-in-loop-column.ensures
    (number_within (2 ^ 30) c.args.second.now c.requires.second c.loop-column.column) in
    let product : c.plus_product-product.result ≡ pos 0 +ℤ (c.args.by *ℤ c.number_at.result) = simp to_z-of_z at c.plus_product-product.ensures in
    simp to_z-of_z (second-room c.plus_product-product.result c.args.by c.number_at.result c.args.with c.number_at-in-loop-column.result product c.requires.by
    (omega arith) c.requires.with (omega arith))

pub loop-column-preserved : goal.loop-column-preserved
loop-column-preserved c =
    let by_fits = c.ranges.by in
    let with_fits = c.ranges.with in
    let x_fits : FitsSigned w128 c.number_at.result = search rules in
    let y_fits : FitsSigned w128 c.number_at-in-loop-column.result = search rules in
    let p_fits : FitsSigned w128 c.plus_product-product.result = search rules in
    let s_fits : FitsSigned w128 c.plus_product-sum.result = search rules in
    let product : c.plus_product-product.result ≡ pos 0 +ℤ (c.args.by *ℤ c.number_at.result) = simp to_z-of_z at c.plus_product-product.ensures in
    let sum : c.plus_product-sum.result ≡ c.plus_product-product.result +ℤ (c.args.with *ℤ c.number_at-in-loop-column.result) = simp to_z-of_z at
    c.plus_product-sum.ensures in
    let sum_is : c.plus_product-sum.result ≡ (c.args.by *ℤ number c.loop-column.column c.args.first.now) +ℤ
    (c.args.with *ℤ number c.loop-column.column c.args.second.now) =
    two-sum c.plus_product-product.result c.args.by c.number_at.result c.args.with c.number_at-in-loop-column.result c.plus_product-sum.result
    (number c.loop-column.column c.args.first.now) (number c.loop-column.column c.args.second.now) product sum c.number_at.ensures
    c.number_at-in-loop-column.ensures in
    let new_is : c.push.new.self ≡ c.loop-column.sums ++ c.plus_product-sum.result ∷ [] = simp to_z-of_z at c.in_ok-push.ensures.ok in
    let so_far : (j : ℕ) → j < c.loop-column.column → number j c.loop-column.sums ≡ (c.args.by *ℤ number j c.args.first.now) +ℤ
    (c.args.with *ℤ number j c.args.second.now) =
    simp to_z-of_z at c.loop-column.invariant.numbers in
    simp to_z-of_z (rw new_is (record {
      size = length-pushed c.loop-column.sums c.plus_product-sum.result c.loop-column.column c.loop-column.invariant.size;
      numbers = pushed (λ j. (c.args.by *ℤ number j c.args.first.now) +ℤ (c.args.with *ℤ number j c.args.second.now)) c.loop-column.sums
          c.plus_product-sum.result
          c.loop-column.column c.loop-column.invariant.size so_far sum_is;
    }))
