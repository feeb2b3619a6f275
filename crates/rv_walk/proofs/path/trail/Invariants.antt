use Rattle.std.proofs.Common.{◌≡◌, ◌+◌, length}
use Rattle.rv_proofs.specs.Systems.{System}
use Rattle.rv_symbolic.specs.Represented.{IsRelationOf}
use Rattle.rv_walk.specs.Trails.{AreControlSets, IsFailing, IsTrail}
use Rattle.rv_walk.proofs.path.trail.Given as goal

abbrev pub invariant-loop-back : goal.invariant-loop-back
invariant-loop-back l = record {
  same : l.store ≡ l.initial.store;
  count : length l.words ≡ l.back + 1;
  trail : (s : System) → IsRelationOf s l.initial.store l.relation → AreControlSets s l.first l.layers.sets
      → IsFailing s l.first l.layers.sets l.fn.failing.layer l.fn.failing.word → IsTrail s l.first l.layers.sets l.layer l.words;
}
