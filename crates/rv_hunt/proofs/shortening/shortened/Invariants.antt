use Rattle.rv_flat.specs.Steps.{AreValues, memory_kinds}
use Rattle.rv_hunt.proofs.shortening.shortened.Given as goal

abbrev pub invariant-loop-round : goal.invariant-loop-round
invariant-loop-round l = AreValues l.flat (memory_kinds l.flat) l.trace.starts
