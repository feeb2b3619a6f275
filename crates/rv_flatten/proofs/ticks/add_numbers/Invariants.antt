use Rattle.std.proofs.Common.{◌≡◌, ◌++◌, drop}
use Rattle.rv_instances.specs.NumberedNeeds.{numbers_of}
use Rattle.rv_flatten.specs.Arrows.{numbers_of_clocks}
use Rattle.rv_flatten.proofs.ticks.add_numbers.Given as goal

abbrev pub invariant-loop-clock : goal.invariant-loop-clock
invariant-loop-clock l = l.found ++ numbers_of_clocks (numbers_of l.reader) (drop l.clock-index l.clocks) ≡ l.initial.found
    ++ numbers_of_clocks (numbers_of l.reader) l.clocks
