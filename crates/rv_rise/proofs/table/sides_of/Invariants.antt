use Rattle.std.proofs.Common.{◌≡◌, ◌*◌, ◌<◌, ◌≤◌, length}
use Rattle.rv_rise.specs.Table.{IsTableOf, column_places}
use Rattle.rv_rise.proofs.table.sides_of.Given as goal

abbrev pub invariant-loop-column : goal.invariant-loop-column
invariant-loop-column l = record {
  table : IsTableOf l.memories (column_places l.memories l.column) l.sides;
  pairs : l.memories ≤ 22 → length l.sides ≡ 2 * (l.column * l.column);
  alone : 22 < l.memories → length l.sides ≡ 2 * l.column;
}
