use Rattle.std.proofs.Common.{◌≡◌, drop}
use Rattle.rv_invfile.specs.{Readers.run, Parts.each, Fronts.with_front, Traces.start}
use Rattle.rv_invfile.proofs.traces.read_starts.Given as goal

abbrev pub invariant-loop-memory : goal.invariant-loop-memory
invariant-loop-memory l = with_front l.values (run (each (start l.labels) (drop l.memory-index l.memories)) l.records) ≡ run
    (each (start l.fn.labels) l.fn.memories) l.fn.records
