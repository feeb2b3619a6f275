use Rattle.rv_diagram.specs.Growing.{Extends}
use Rattle.rv_left.specs.Entries.{AreThawn}
use Rattle.rv_left.proofs.locating.thaw_all.Given as goal

abbrev pub invariant-loop-k : goal.invariant-loop-k
invariant-loop-k l = record {
  extends : Extends l.initial.store l.store;
  thawn : AreThawn l.store l.sets l.k l.refs.items;
}
