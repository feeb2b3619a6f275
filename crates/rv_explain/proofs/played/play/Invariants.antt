use Rattle.rv_flat.specs.Steps.{IsState}
use Rattle.rv_explain.proofs.played.play.Given as goal

abbrev pub invariant-loop-number : goal.invariant-loop-number
invariant-loop-number l = IsState l.flat l.before
