use Rattle.std.proofs.Common.{◌≡◌, ◌-◌}
use Rattle.rv_invfile.specs.{Readers.run, Parts.times, Fronts.with_front, Traces.instant}
use Rattle.rv_invfile.proofs.traces.read_instants.Given as goal

abbrev pub invariant-loop-done : goal.invariant-loop-done
invariant-loop-done l = with_front l.instants (run (times (l.count - l.done) (instant l.flat)) l.records) ≡ run (times l.fn.count (instant l.fn.flat))
    l.fn.records
