use Rattle.std.proofs.Common.{take}
use Rattle.rv_pairs.specs.Hints.{AreHints, AreHintsOf}
use Rattle.rv_pairs.proofs.hints.hints_of.Given as goal

abbrev pub invariant-loop-place : goal.invariant-loop-place
invariant-loop-place l = record {
  hints : AreHints l.store.nodes l.all;
  shown : AreHintsOf l.store.nodes (take l.place l.labels) l.numbers l.all;
}
