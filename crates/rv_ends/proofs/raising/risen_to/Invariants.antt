use Rattle.rv_diagram.specs.Growing.{Extends}
use Rattle.rv_ends.specs.Risen.{IsRisen, PartsWithin}
use Rattle.rv_ends.proofs.raising.risen_to.Given as goal

abbrev pub invariant-loop-place : goal.invariant-loop-place
invariant-loop-place l = record {
  extends : Extends l.initial.store l.store;
  risen : IsRisen l.thresholds (PartsWithin l.initial.store.nodes l.inside l.side.end.parts l.place l.number) l.initial.held l.held;
}
