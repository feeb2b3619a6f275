use Rattle.rv_diagram.specs.{Nodes.IsRef, Growing.Extends}
use Rattle.rv_cover.proofs.refs.all_of.Given as goal

abbrev pub invariant-loop-place : goal.invariant-loop-place
invariant-loop-place l = record {
  extends : Extends l.initial.store l.store;
  found : IsRef l.store.nodes l.all;
}
