use Rattle.std.proofs.Common.{◌≡◌, ℕ, ◌≤◌, ◌^◌, ◌+ℤ◌, ◌-ℤ◌, ◌*ℤ◌, pos, FitsSigned, rules}
use Rattle.std.proofs.lemmas.Int.{to_z-of_z}
use Rattle.std.specs.{Int.w128, Int.RustNames.unsigned_abs}
use Rattle.rv_rows.specs.Forms.{number}
use Rattle.rv_poly.proofs.EliminateLemmas.{number_within, product_small, opposite_fits, opposite_small, combined-made}
use Rattle.rv_poly.proofs.eliminate.combine.Goals as goal

pub two_products-requires-clause-first : goal.two_products-requires-clause-first
two_products-requires-clause-first c =
    let n_fits : FitsSigned w128 c.number_at-by.result = search rules in
    let n_small : unsigned_abs c.number_at-by.result ≤ 2 ^ 30 = rw c.number_at-by.ensures
    (number_within (2 ^ 30) c.args.negative.now.coefficients c.requires.negative.coefficients c.args.column) in
    let b_fits : FitsSigned w128 c.args.positive.now.bound = search rules in
    let o_fits = opposite_fits c.number_at-by.result n_small in
    simp to_z-of_z (product_small (pos 0 -ℤ c.number_at-by.result) c.args.positive.now.bound (opposite_small c.number_at-by.result n_small)
    c.requires.positive.bound)

pub two_products-requires-clause-second : goal.two_products-requires-clause-second
two_products-requires-clause-second c =
    let n_fits : FitsSigned w128 c.number_at-with.result = search rules in
    let n_small : unsigned_abs c.number_at-with.result ≤ 2 ^ 30 = rw c.number_at-with.ensures
    (number_within (2 ^ 30) c.args.positive.now.coefficients c.requires.positive.coefficients c.args.column) in
    let b_fits : FitsSigned w128 c.args.negative.now.bound = search rules in
    simp to_z-of_z (product_small c.number_at-with.result c.args.negative.now.bound n_small c.requires.negative.bound)

pub returns : goal.returns
returns c =
    let n_fits : FitsSigned w128 c.number_at-by.result = search rules in
    let n_small : unsigned_abs c.number_at-by.result ≤ 2 ^ 30 = rw c.number_at-by.ensures
    (number_within (2 ^ 30) c.args.negative.now.coefficients c.requires.negative.coefficients c.args.column) in
    let o_fits = opposite_fits c.number_at-by.result n_small in
    let m_fits : FitsSigned w128 c.number_at-with.result = search rules in
    let p_fits : FitsSigned w128 c.args.positive.now.bound = search rules in
    let q_fits : FitsSigned w128 c.args.negative.now.bound = search rules in
    let b_fits : FitsSigned w128 c.two_products.result = search rules in
    let sums : (j : ℕ) → number j c.in_ok-coefficients.coefficients ≡ ((pos 0 -ℤ c.number_at-by.result) *ℤ number j c.args.positive.now.coefficients) +ℤ
    (c.number_at-with.result *ℤ number j c.args.negative.now.coefficients) =
    simp to_z-of_z at c.in_ok-coefficients.ensures.sums in
    let bound : c.two_products.result ≡ ((pos 0 -ℤ c.number_at-by.result) *ℤ c.args.positive.now.bound) +ℤ
    (c.number_at-with.result *ℤ c.args.negative.now.bound) =
    simp to_z-of_z at c.two_products.ensures in
    simp to_z-of_z (combined-made c.args.column c.args.positive.now c.args.negative.now c.in_ok-coefficients.coefficients c.number_at-by.result
    c.number_at-with.result c.two_products.result
    c.number_at-by.ensures c.number_at-with.ensures c.in_ok-coefficients.ensures.width sums bound)
