use Rattle.std.proofs.Common.{◌≡◌, true}
use Rattle.rv_diagram.specs.{Nodes.value_of, Growing.Extends}
use Rattle.rv_ends.specs.Sides.{box_at}
use Rattle.rv_taken.specs.Meeting.{IsExactly}
use Rattle.rv_taken.proofs.Meetings.{AreUncrossed}
use Rattle.rv_taken.proofs.opening.without_empty.Given as goal

abbrev pub invariant-loop-column : goal.invariant-loop-column
invariant-loop-column l = record {
  extends : Extends l.initial.store l.store;
  exact : IsExactly l.store.nodes (λ v. (value_of l.initial.store.nodes l.initial.rest v ≡ true)
      × AreUncrossed (box_at l.initial.store.nodes l.ends v) l.column) l.rest;
}
