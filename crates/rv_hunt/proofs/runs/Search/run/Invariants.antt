use Rattle.rv_flat.specs.Steps.{IsState}
use Rattle.rv_hunt.proofs.runs.Search.run.Given as goal

abbrev pub invariant-loop-instant : goal.invariant-loop-instant
invariant-loop-instant l = IsState l.flat l.now
