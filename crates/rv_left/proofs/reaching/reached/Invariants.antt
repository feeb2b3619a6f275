use Rattle.std.proofs.Common.{◌≡◌, ◌+◌, cond, false, length}
use Rattle.rv_proofs.specs.Systems.{System}
use Rattle.rv_symbolic.specs.Represented.{IsRelationOf}
use Rattle.rv_walk.specs.{Ends.has, Walks.missing}
use Rattle.rv_left.specs.Fronts.{IsReaching}
use Rattle.rv_left.proofs.reaching.reached.Given as goal

abbrev pub invariant-loop-more : goal.invariant-loop-more
invariant-loop-more l = record {
  same : l.store ≡ l.initial.store;
  front : (s : System) → IsRelationOf s l.initial.store l.relation → IsReaching s l.more l.front.fresh l.front.all;
}

abbrev pub decreases-loop-more : goal.decreases-loop-more
decreases-loop-more l = missing (length l.relation.parts.next) (has l.front.all) (λ x. false) + cond l.more 1 0
