use Rattle.std.proofs.Common.{◌≡◌, ◌+◌, ℕ, false, length, drop, get_or}
use Rattle.rv_flat.specs.Lists.{tick_places}
use Rattle.rv_step.proofs.ticking.no_ticks.Given as goal

abbrev pub invariant-loop-variable : goal.invariant-loop-variable
invariant-loop-variable l = record {
  length : length l.ticked + length (tick_places (drop l.variable-index l.variables)) ≡ 1 + length (tick_places l.variables);
  none : (k : ℕ) → get_or l.ticked k false ≡ false;
}
