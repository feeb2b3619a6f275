use Rattle.std.proofs.Common.{◌≡◌, ◌++◌, map, drop}
use Rattle.rv_flatten.specs.{Compared.compared_at, Kept.found_comparison}
use Rattle.rv_flatten.proofs.comparisons.push_found.Given as goal

abbrev pub invariant-loop-one : goal.invariant-loop-one
invariant-loop-one l =
    map found_comparison l.found ++ map (compared_at l.path) (drop l.one-index l.tested) ≡ map found_comparison l.fn.found ++ map (compared_at l.path) l.tested
