use Rattle.rv_diagram.specs.Growing.{Extends}
use Rattle.rv_ends.specs.{Cuts.AreCut, Cuts.MeetsTests, Sides.AreEnds}
use Rattle.rv_ends.proofs.ends.test_ends.Given as goal

abbrev pub invariant-loop-test : goal.invariant-loop-test
invariant-loop-test l = record {
  extends : Extends l.initial.store l.store;
  ends : AreEnds l.store.nodes l.columns l.ends;
  exact : AreCut l.initial.store.nodes l.store.nodes l.initial.ends l.ends (MeetsTests l.initial.store.nodes l.questions l.test);
}
