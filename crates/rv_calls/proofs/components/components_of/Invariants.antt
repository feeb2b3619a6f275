use Rattle.std.proofs.Common.{ℕ, ◌≡◌, ◌<◌, length}
use Rattle.rv_calls.specs.Components.{AreVertices, HasMark, IsParted}
use Rattle.rv_calls.proofs.components.components_of.Given as goal

abbrev pub invariant-loop-root : goal.invariant-loop-root
invariant-loop-root l = record {
  parted : IsParted l.graph l.seen l.parts;
  roots : AreVertices l.graph l.roots;
}

abbrev pub decreases-loop-root : goal.decreases-loop-root
decreases-loop-root l = length l.roots

abbrev pub invariant-loop-v : goal.invariant-loop-v
invariant-loop-v l = record {
  parted : IsParted l.graph l.seen l.parts;
  marked : (k : ℕ) → k < l.v → HasMark l.parts k;
  whole : l.v-end ≡ length l.graph;
}
