use Rattle.std.proofs.Common.{arith}
use Rattle.rv_poly.proofs.guides.add_column.Goals as goal

pub add_all_replaced-requires : goal.add_all_replaced-requires
add_all_replaced-requires c = record {
  guide = c.requires;
  first = rw c.in-Some.is at c.best_equality.ensures.first;
  second = rw c.in-Some.is at c.best_equality.ensures.second;
  count = omega (arith, c.len-count.ensures);
}
