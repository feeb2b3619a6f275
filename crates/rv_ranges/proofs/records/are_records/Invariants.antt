use Rattle.std.specs.List.{AllWithin}
use Rattle.rv_proofs.specs.Ranges.{IsRecord}
use Rattle.rv_ranges.proofs.records.are_records.Given as goal

abbrev pub invariant-loop-by : goal.invariant-loop-by
invariant-loop-by l = AllWithin (IsRecord l.premises) l.list 0 l.by-index
