use Rattle.std.proofs.Common.{◌≡◌, true}
use Rattle.rv_diagram.specs.{Nodes.value_of, Growing.Extends}
use Rattle.rv_taken.specs.Meeting.{IsExactly, AreMet}
use Rattle.rv_taken.proofs.opening.without_test.Given as goal

abbrev pub invariant-loop-place : goal.invariant-loop-place
invariant-loop-place l = record {
  extends : Extends l.initial.store l.store;
  exact : IsExactly l.store.nodes (λ v. (value_of l.initial.store.nodes l.initial.rest v ≡ true)
      × AreMet l.initial.store.nodes l.ends l.answers l.rows l.place v) l.rest;
}
