use Rattle.std.proofs.Common.{◌≡◌, ◌-◌, length}
use Rattle.rv_invfile.specs.{Readers.run, Parts.times, Fronts.with_front}
use Rattle.rv_invariant.specs.Pieces.{a_row}
use Rattle.rv_invariant.proofs.rows.read_rows.Given as goal

abbrev pub invariant-loop-done : goal.invariant-loop-done
invariant-loop-done l = record {
  size : length l.rows ≡ l.done;
  kept : with_front l.rows (run (times (l.count - l.done) (a_row l.memories)) l.records) ≡ run (times l.fn.count (a_row l.fn.memories)) l.fn.records;
}
