use Rattle.rv_diagram.specs.Nodes.{IsRef, value_of}
use Rattle.rv_diagram.specs.Growing.{Extends}
use Rattle.rv_accept.proofs.Judgment.{AreApartBelow}
use Rattle.rv_accept.proofs.judging.are_apart_in.Given as goal

abbrev pub invariant-loop-k : goal.invariant-loop-k
invariant-loop-k l = record {
  extends : Extends l.initial.store l.store;
  found : IsRef l.store.nodes l.seen;
  apart : AreApartBelow l.certificate l.k (value_of l.store.nodes l.seen);
}
