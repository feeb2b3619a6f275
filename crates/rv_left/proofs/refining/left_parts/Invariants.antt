use Rattle.std.proofs.Common.{◌≡◌}
use Rattle.rv_left.specs.Turns.{AreMarked}
use Rattle.rv_left.proofs.refining.left_parts.Given as goal

abbrev pub invariant-loop-k : goal.invariant-loop-k
invariant-loop-k l = record {
  same : l.store ≡ l.initial.store;
  marked : AreMarked l.parts l.failing l.k l.left;
}
