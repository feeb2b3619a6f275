use Rattle.std.proofs.Common.{length}
use Rattle.rv_diagram.specs.Growing.{Extends}
use Rattle.rv_ends.specs.{Cuts.AreCut, Cuts.MeetsFirst, Sides.AreEnds}
use Rattle.rv_ends.proofs.ends.take_test.Given as goal

abbrev pub invariant-loop-place : goal.invariant-loop-place
invariant-loop-place l = record {
  extends : Extends l.initial.store l.store;
  ends : AreEnds l.store.nodes (length l.initial.ends) l.ends;
  exact : AreCut l.initial.store.nodes l.store.nodes l.initial.ends l.ends (MeetsFirst l.initial.store.nodes l.answers l.rows l.place);
}
