use Rattle.std.proofs.Common.{◌≡◌, ◌+◌, ◌≤◌, [], length, drop}
use Rattle.rv_sizes.specs.Ticks.{sites_of_clocks}
use Rattle.rv_sizes.proofs.ticks.different_sites.Given as goal

abbrev pub invariant-loop-clock : goal.invariant-loop-clock
invariant-loop-clock l = record {
  bound : l.count ≤ l.clock-index;
  count : l.count + length (sites_of_clocks l.seen (drop l.clock-index l.clocks)) ≡ length (sites_of_clocks [] l.clocks);
}
