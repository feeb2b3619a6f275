use Rattle.rv_diagram.specs.{Nodes.IsRef, Growing.Extends}
use Rattle.rv_ends.proofs.Tightening.{IsBelowAmong}
use Rattle.rv_ends.proofs.sides.parts_below.Given as goal

abbrev pub invariant-loop-place : goal.invariant-loop-place
invariant-loop-place l = record {
  extends : Extends l.initial.store l.store;
  found : IsRef l.store.nodes l.sum;
  among : IsBelowAmong l.initial.store.nodes l.store.nodes l.term.parts l.place l.bound l.sum;
}
