use Rattle.std.proofs.Common.{◌≡◌, ◌++◌, drop}
use Rattle.std.specs.List.{flat_map}
use Rattle.rv_types.specs.Lists.{sites_of}
use Rattle.rv_meaning.specs.{Callings.callee_in, Remembered.places_at}
use Rattle.rv_meaning.proofs.memory_list.places_of.Given as goal

abbrev pub invariant-loop-path : goal.invariant-loop-path
invariant-loop-path l =
    sites_of l.places ++ flat_map (places_at (callee_in l.callees) l.sites l.main) (drop l.path-index l.paths)
    ≡ flat_map (places_at (callee_in l.callees) l.sites l.main) l.paths
