use Rattle.std.proofs.Common.{arith}
use Rattle.rv_types.proofs.Weights.{capped}
use Rattle.rv_types.proofs.wide_constants.of_both.Goals as goal

pub part_of-requires : goal.part_of-requires
part_of-requires c =
    record {
      value = c.of_operator-weighed.ensures.bound;
      weight =
          let e = c.of_operator-weighed.ensures.weight _ _ (capped _ c.args.a.now.bound.weight) (capped _ c.args.b.now.bound.weight) in
          omega (arith, e);
    }
