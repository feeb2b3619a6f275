use Rattle.rv_pairs.specs.Keys.{AreKeys, AreIndexed}
use Rattle.rv_pairs.proofs.indexed.LabelledRows.new.Given as goal

abbrev pub invariant-loop-place : goal.invariant-loop-place
invariant-loop-place l = record {
  keys : AreKeys l.fn.list l.place l.keys;
  places : AreIndexed l.fn.list l.place l.places.items;
}
