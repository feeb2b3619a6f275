use Rattle.std.proofs.Common.{◌≡◌, All, length}
use Rattle.rv_diagram.specs.{Nodes.IsRef, Growing.Extends}
use Rattle.rv_refine.proofs.refining.into_each.Given as goal

abbrev pub invariant-loop-place : goal.invariant-loop-place
invariant-loop-place l = record {
  extends : Extends l.initial.store l.store;
  found : All (IsRef l.store.nodes) l.into;
  many : length l.into ≡ l.place;
}
