use Rattle.rv_flat.specs.Steps.{IsState}
use Rattle.rv_hunt.proofs.shortening.without.Given as goal

abbrev pub invariant-loop-number : goal.invariant-loop-number
invariant-loop-number l = IsState l.flat l.now
