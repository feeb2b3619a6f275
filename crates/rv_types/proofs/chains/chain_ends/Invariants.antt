use Rattle.std.proofs.Common.{◌≡◌, ◌≤◌, ◌+◌, ◌-◌, length}
use Rattle.rv_types.specs.{declared.typed.Clock.Clock, Chains.follow, Chains.after}
use Rattle.rv_types.proofs.chains.chain_ends.Given as goal

abbrev pub invariant-loop-steps : goal.invariant-loop-steps
invariant-loop-steps l = record {
  some : 1 ≤ l.steps;
  far : (c : Clock) → follow l.jumps.items c ≡ after l.clocks l.steps c;
}

abbrev pub decreases-loop-steps : goal.decreases-loop-steps
decreases-loop-steps l = length l.clocks + 1 - l.steps
