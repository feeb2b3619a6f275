use Rattle.std.proofs.Common.{subst, arith}
use Rattle.rv_types.specs.ConstantParts.{IsKnownBound}
use Rattle.rv_types.proofs.Weights.{capped}
use Rattle.rv_types.proofs.reading_values.constant_if.Goals as goal

pub returns-in-Some-b-clause-bound : goal.returns-in-Some-b-clause-bound
returns-in-Some-b-clause-bound c = record {
  value = c.of_if.ensures.bound;
  weight =
      let a = subst IsKnownBound c.in-Some-a.is c.requires.a in
      let b = subst IsKnownBound c.in-Some-b.is c.requires.b in
      let e = c.of_if.ensures.weight _ _ (capped _ a.weight) (capped _ b.weight) in
      omega (arith, e);
}
