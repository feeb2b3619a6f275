use Rattle.std.proofs.Common.{take}
use Rattle.rv_calls.specs.Loops.{IsLowered}
use Rattle.rv_calls.proofs.recursion.lower_in_node.Given as goal

abbrev pub invariant-loop-call : goal.invariant-loop-call
invariant-loop-call l = IsLowered l.parts l.node (take l.call-index l.calls) l.fn.old l.least
