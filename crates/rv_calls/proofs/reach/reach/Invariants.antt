use Rattle.std.proofs.Common.{◌+◌, length}
use Rattle.rv_calls.specs.Components.{IsSearch, unmarked}
use Rattle.rv_calls.proofs.reach.reach.Given as goal

abbrev pub invariant-loop-v : goal.invariant-loop-v
invariant-loop-v l = IsSearch l.graph l.allowed l.wanted l.from l.fn.marks l.marks l.waiting

abbrev pub decreases-loop-v : goal.decreases-loop-v
decreases-loop-v l = unmarked l.from l.marks + length l.waiting
