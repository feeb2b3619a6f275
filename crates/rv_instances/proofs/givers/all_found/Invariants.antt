use Rattle.std.proofs.Common.{◌≡◌, map, take, Some}
use Rattle.rv_instances.proofs.givers.all_found.Given as goal

abbrev pub invariant-loop-giver : goal.invariant-loop-giver
invariant-loop-giver l = map Some l.givers ≡ take l.giver-index l.found
