use Rattle.std.proofs.Common.{ℕ, ◌≡◌, ◌<◌, [], length, get_or, true, false}
use Rattle.rv_calls.specs.Graphs.{IsWalk}
use Rattle.rv_calls.proofs.graph.sort.Given as goal

abbrev pub invariant-loop-root : goal.invariant-loop-root
invariant-loop-root l = record {
  walk : IsWalk l.graph l.walk;
  path : l.walk.path ≡ [];
  entered : (k : ℕ) → k < l.root → get_or l.walk.entered k false ≡ true;
  whole : l.root-end ≡ length l.graph;
}
