use Rattle.std.proofs.Common.{◌≡◌, ◌++◌, map, drop}
use Rattle.rv_types.specs.Lists.{Tick, sites_of, with_copies}
use Rattle.rv_flat.specs.Lists.{variable_of}
use Rattle.rv_flatten.proofs.variables.add_ticks.Given as goal

abbrev pub invariant-loop-place : goal.invariant-loop-place
invariant-loop-place l =
    map variable_of l.bits ++ with_copies (map Tick (sites_of (drop l.place-index l.ticks)))
    ≡ map variable_of l.initial.bits ++ with_copies (map Tick (sites_of l.ticks))
