use Rattle.std.proofs.Common.{◌≡◌, true}
use Rattle.rv_diagram.specs.{Nodes.value_of, Growing.Extends}
use Rattle.rv_taken.specs.Meeting.{IsExactly, AreTestsMet}
use Rattle.rv_taken.proofs.opening.without_tests.Given as goal

abbrev pub invariant-loop-test : goal.invariant-loop-test
invariant-loop-test l = record {
  extends : Extends l.initial.store l.store;
  exact : IsExactly l.store.nodes (λ v. (value_of l.initial.store.nodes l.initial.rest v ≡ true)
      × AreTestsMet l.initial.store.nodes l.ends l.questions l.test v) l.rest;
}
