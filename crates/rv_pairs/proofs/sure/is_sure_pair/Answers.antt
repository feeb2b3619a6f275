use Rattle.std.proofs.Common.{ℤ, ◌≤ℤ◌, subst, arith, rules, FitsSigned}
use Rattle.std.proofs.{lemmas.Int.to_z-of_z}
use Rattle.std.specs.Int.{w128}
use Rattle.rv_pairs.proofs.sure.is_sure_pair.Goals as goal

pub returns : goal.returns
returns c e nodes v on always here =
    let one_fits : FitsSigned w128 c.at-one.result.now.row.bound = search rules in
    let label_fits : FitsSigned w128 c.args.label.now.row.bound = search rules in
    let bound_fits : FitsSigned w128 c.args.bound = search rules in
    let sum_fits : FitsSigned w128 c.sum_of-sum.result = search rules in
    let is = simp to_z-of_z at c.sum_of-sum.ensures.is in
    let low = simp to_z-of_z at c.if-is_below.ensures in (
      omega (arith, c.if-earlier-place.false),
      (
        c.at-one.result.now,
        c.at-one.ensures.value,
        record {
          one = c.is_one_of.ensures c.if-not-is_one_of.false nodes v on always;
          other = here;
          shows = record { sides = c.if-misses.ensures; bounds = subst (λ (z : ℤ). z ≤ℤ c.args.bound) is low };
        },
      ),
    )
