use Rattle.std.proofs.Common.{take}
use Rattle.rv_calls.specs.Components.{IsSpread}
use Rattle.rv_calls.proofs.reach.spread.Given as goal

abbrev pub invariant-loop-target : goal.invariant-loop-target
invariant-loop-target l = IsSpread l.allowed l.wanted l.from (take l.target-index l.targets) l.initial.marks l.initial.waiting l.marks l.waiting
