use Rattle.std.proofs.Common.{◌≡◌, take, reverse}
use Rattle.rv_types.specs.TypeTables.{declared_kinds}
use Rattle.rv_types.proofs.kinds.type_kinds.Given as goal

abbrev pub invariant-loop-d : goal.invariant-loop-d
invariant-loop-d l = l.kinds ≡ declared_kinds (reverse (take l.d-index l.types))
