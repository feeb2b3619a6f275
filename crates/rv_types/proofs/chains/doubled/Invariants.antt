use Rattle.std.proofs.Common.{◌≡◌, map, take}
use Rattle.rv_types.specs.Chains.{follow}
use Rattle.rv_types.proofs.chains.doubled.Given as goal

abbrev pub invariant-loop-clock : goal.invariant-loop-clock
invariant-loop-clock l = l.further.items ≡ map (follow l.clocks) (take l.clock-index l.clocks)
