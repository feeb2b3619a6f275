use Rattle.std.proofs.{Common.◌+ℤ◌, Common.ℤ, Common.subst, Common.FitsSigned, Common.rules, Common.to_z, Common.of_z, lemmas.Int.to_z-of_z}
use Rattle.std.specs.Int.{w128}
use Rattle.rv_rows.specs.Multipliers.{Proves}
use Rattle.rv_seek.specs.Least.{bounded}
use Rattle.rv_seek.proofs.LeastLemmas.{sums_show, sums_small, small_sum, back, pair_tight}
use Rattle.rv_seek.proofs.seek.bounded_by.Goals as goal

pub overflow_add-result : goal.overflow_add-result
overflow_add-result c =
    let best_fits : FitsSigned w128 c.args.best.bound = search rules in
    let constant_fits : FitsSigned w128 c.args.form.now.constant = search rules in
    simp to_z-of_z (small_sum c.args.best.bound c.args.form.now.constant
    (sums_small c.args.premises.now c.args.form.now.coefficients c.args.best c.requires.premises c.requires.best) c.requires.form.1)

pub returns-clause-bound : goal.returns-clause-bound
returns-clause-bound c =
    let best_fits : FitsSigned w128 c.args.best.bound = search rules in
    let constant_fits : FitsSigned w128 c.args.form.now.constant = search rules in
    let sum_fits : FitsSigned w128 (c.args.best.bound +ℤ c.args.form.now.constant) = small_sum c.args.best.bound c.args.form.now.constant
    (sums_small c.args.premises.now c.args.form.now.coefficients c.args.best c.requires.premises c.requires.best) c.requires.form.1 in
    simp to_z-of_z

pub returns-clause-proof : goal.returns-clause-proof
returns-clause-proof c =
    subst (λ (z : ℤ). Proves c.args.premises.now (bounded c.args.form.now.coefficients z) c.in_ok-by.by)
    (back c.args.best.bound c.args.form.now.constant
    (to_z w128 (of_z w128 (to_z w128 (of_z w128 c.args.best.bound) +ℤ to_z w128 (of_z w128 c.args.form.now.constant)))) (returns-clause-bound c))
    (c.in_ok-by.ensures.proof (bounded c.args.form.now.coefficients c.args.best.bound)
    (sums_show c.args.premises.now c.args.form.now.coefficients c.args.best c.requires.best))

pub returns-clause-tight : goal.returns-clause-tight
returns-clause-tight c =
    pair_tight c.args.premises.now c.args.form.now c.args.best
    (to_z w128 (of_z w128 (to_z w128 (of_z w128 c.args.best.bound) +ℤ to_z w128 (of_z w128 c.args.form.now.constant)))) c.in_ok-by.by c.requires.best
    c.in_ok-by.ensures.divisor c.in_ok-by.ensures.weights (returns-clause-bound c)
