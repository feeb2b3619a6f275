use Rattle.std.proofs.Common.{All}
use Rattle.rv_diagram.specs.{Nodes.IsRef, Nodes.IsOrderedOver, Growing.Extends}
use Rattle.rv_refine.proofs.parts.single_states.Given as goal

abbrev pub invariant-loop-turn : goal.invariant-loop-turn
invariant-loop-turn l = record {
  extends : Extends l.fn.store l.store;
  left : IsRef l.store.nodes l.left;
  ordered : All (IsOrderedOver l.fn.store.variables) l.parts;
}
