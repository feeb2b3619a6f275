use Rattle.rv_diagram.specs.Growing.{Extends}
use Rattle.rv_ends.specs.Risen.{IsRisen}
use Rattle.rv_taken.proofs.Risings.{FormsHold}
use Rattle.rv_taken.proofs.rising.risen_in.Given as goal

abbrev pub invariant-loop-place : goal.invariant-loop-place
invariant-loop-place l = record {
  extends : Extends l.initial.store l.store;
  risen : IsRisen l.thresholds (FormsHold l.initial.store.nodes l.taken l.ends l.answers l.forms l.place) l.initial.held l.held;
}
