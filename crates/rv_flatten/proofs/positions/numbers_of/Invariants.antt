use Rattle.std.proofs.Common.{◌≡◌, ◌++◌, map, drop}
use Rattle.rv_types.specs.Lists.{sites_of}
use Rattle.rv_flatten.specs.Positions.{number_from, way_from}
use Rattle.rv_flatten.proofs.positions.numbers_of.Given as goal

abbrev pub invariant-loop-place : goal.invariant-loop-place
invariant-loop-place l = record {
  numbers : l.numbers ++ map (number_from l.layout 0 0) (sites_of (drop l.place-index l.sequence)) ≡ map (number_from l.layout 0 0) (sites_of l.sequence);
  way : l.way ≡ way_from l.layout 0 l.path;
}
