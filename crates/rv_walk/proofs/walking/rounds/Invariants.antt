use Rattle.std.proofs.Common.{◌≡◌, ◌+◌, cond, false, length}
use Rattle.rv_diagram.specs.Nodes.{value_of, IsRef}
use Rattle.rv_diagram.specs.Growing.{Extends}
use Rattle.rv_proofs.specs.Systems.{System}
use Rattle.rv_symbolic.specs.Represented.{IsRelationOf}
use Rattle.rv_walk.specs.Walks.{IsWalk, IsWalking, missing}
use Rattle.rv_walk.proofs.walking.rounds.Given as goal

abbrev pub invariant-loop-more : goal.invariant-loop-more
invariant-loop-more l = record {
  extends : Extends l.initial.store l.store;
  first : l.first ≡ length l.initial.store.nodes;
  found : IsRef l.store.nodes l.walk.reached;
  walk : (s : System) → IsRelationOf s l.initial.store l.relation
      → IsWalk s l.initial.walk.sets (value_of l.initial.store.nodes l.initial.walk.reached) l.initial.walk.good
      → IsWalking s l.more l.walk.sets (value_of l.store.nodes l.walk.reached) l.walk.good;
}

abbrev pub decreases-loop-more : goal.decreases-loop-more
decreases-loop-more l = missing (length l.relation.parts.next) (value_of l.store.nodes l.walk.reached) (λ x. false) + cond l.more 1 0
