use Rattle.rv_diagram.specs.Nodes.{IsRef}
use Rattle.rv_diagram.specs.Growing.{Extends}
use Rattle.rv_symbolic.specs.Linked.{AreRefs}
use Rattle.rv_paths.proofs.words.with_bits.Given as goal

abbrev pub invariant-loop-bit : goal.invariant-loop-bit
invariant-loop-bit l = record {
  extends : Extends l.initial.store l.store;
  found : IsRef l.store.nodes l.rest;
  next : AreRefs l.store.nodes l.next;
}
