use Rattle.std.specs.List.{AllWithin}
use Rattle.rv_ranges.specs.Documents.{IsKeptRow}
use Rattle.rv_ranges.proofs.rows.each_is_kept.Given as goal

abbrev pub invariant-loop-row : goal.invariant-loop-row
invariant-loop-row l = AllWithin (IsKeptRow l.memories) l.rows 0 l.row-index
