use Rattle.rv_calls.specs.Components.{IsDepth}
use Rattle.rv_calls.proofs.finishing.finishing_order.Given as goal

abbrev pub invariant-loop-root : goal.invariant-loop-root
invariant-loop-root l = IsDepth l.graph l.walk
