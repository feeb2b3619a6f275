use Rattle.rv_calls.specs.Components.{IsReversedTo}
use Rattle.rv_calls.proofs.components.reversed.Given as goal

abbrev pub invariant-loop-v : goal.invariant-loop-v
invariant-loop-v l = IsReversedTo l.graph l.v l.turned.items
