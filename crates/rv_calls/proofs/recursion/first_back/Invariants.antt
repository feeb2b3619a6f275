use Rattle.rv_calls.specs.Loops.{IsLoweredTo}
use Rattle.rv_calls.proofs.recursion.first_back.Given as goal

abbrev pub invariant-loop-node : goal.invariant-loop-node
invariant-loop-node l = IsLoweredTo l.parts l.table l.node l.least
