use Rattle.std.proofs.Common.{◌≡◌, drop}
use Rattle.rv_sizes.specs.Ticks.{has_base}
use Rattle.rv_sizes.proofs.ticks.is_base_among.Given as goal

abbrev pub invariant-loop-clock : goal.invariant-loop-clock
invariant-loop-clock l = has_base (drop l.clock-index l.clocks) ≡ has_base l.clocks
