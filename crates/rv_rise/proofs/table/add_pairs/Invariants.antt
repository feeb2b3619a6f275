use Rattle.std.proofs.Common.{◌≡◌, ◌+◌, ◌*◌, length}
use Rattle.rv_rise.specs.Table.{IsTableOf, pair_places}
use Rattle.rv_rise.proofs.table.add_pairs.Given as goal

abbrev pub invariant-loop-first : goal.invariant-loop-first
invariant-loop-first l = record {
  table : IsTableOf l.memories (pair_places l.memories l.second l.first) l.sides;
  count : length l.sides ≡ length l.initial.sides + 4 * l.first;
}
