use Rattle.std.proofs.Common.{take}
use Rattle.rv_calls.specs.Components.{IsTurned}
use Rattle.rv_calls.proofs.components.turn_all.Given as goal

abbrev pub invariant-loop-target : goal.invariant-loop-target
invariant-loop-target l = IsTurned (take l.target-index l.targets) l.v l.initial.turned.items l.turned.items
