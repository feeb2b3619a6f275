use Rattle.std.proofs.Common.{◌≡◌, ◌≤◌, ◌^◌, ◌+ℤ◌, ℤ, subst, FitsSigned, rules, arith, to_z, of_z}
use Rattle.std.proofs.lemmas.Int.{to_z-of_z}
use Rattle.std.specs.{Int.w128, Int.RustNames.unsigned_abs}
use Rattle.rv_rows.specs.Multipliers.{Proves}
use Rattle.rv_seek.specs.Least.{bounded}
use Rattle.rv_seek.proofs.{LeastLemmas.wide_sum, LeastLemmas.back, FloorLemmas.floor_kept}
use Rattle.rv_seek.proofs.seek.checked_bound.Goals as goal

pub returns-in-Some-clause-proof : goal.returns-in-Some-clause-proof
returns-in-Some-clause-proof c =
    let most_fits : FitsSigned w128 c.args.most = c.ranges.most in
    let constant_fits : FitsSigned w128 c.args.form.now.constant = search rules in
    let size = simp to_z-of_z at c.unsigned_abs.ensures.value in
    let small : unsigned_abs c.args.most ≤ 2 ^ 78 = omega (arith, size) in
    let sum_fits : FitsSigned w128 (c.args.most +ℤ c.args.form.now.constant) = wide_sum c.args.most c.args.form.now.constant small c.requires.form.1 in
    let is : to_z w128 (of_z w128 (to_z w128 (of_z w128 c.args.most) +ℤ to_z w128 (of_z w128 c.args.form.now.constant))) ≡ c.args.most +ℤ
    c.args.form.now.constant = simp to_z-of_z in
    let proof = simp to_z-of_z at c.in-Some.ensures.proof in
    subst (λ (z : ℤ). Proves c.args.premises.now (bounded c.args.form.now.coefficients z) c.in-Some.by)
    (back c.args.most c.args.form.now.constant _ is)
    (rw c.in_ok-copy.ensures at proof)

pub returns-in-Some-clause-tight : goal.returns-in-Some-clause-tight
returns-in-Some-clause-tight c =
    let most_fits : FitsSigned w128 c.args.most = c.ranges.most in
    let constant_fits : FitsSigned w128 c.args.form.now.constant = search rules in
    let size = simp to_z-of_z at c.unsigned_abs.ensures.value in
    let small : unsigned_abs c.args.most ≤ 2 ^ 78 = omega (arith, size) in
    let sum_fits : FitsSigned w128 (c.args.most +ℤ c.args.form.now.constant) = wide_sum c.args.most c.args.form.now.constant small c.requires.form.1 in
    let is : to_z w128 (of_z w128 (to_z w128 (of_z w128 c.args.most) +ℤ to_z w128 (of_z w128 c.args.form.now.constant))) ≡ c.args.most +ℤ
    c.args.form.now.constant = simp to_z-of_z in
    floor_kept c.args.premises.now c.args.form.now c.args.found c.in-Some.by c.args.most
    (to_z w128 (of_z w128 (to_z w128 (of_z w128 c.args.most) +ℤ to_z w128 (of_z w128 c.args.form.now.constant)))) c.in-Some.ensures.same
    c.in-Some.ensures.proof.positive c.requires.floor is
