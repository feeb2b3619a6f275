use Rattle.std.proofs.Common.{List, take}
use Rattle.rv_diagram.specs.{declared.Triple.Triple, Nodes.Valuation}
use Rattle.rv_pairs.specs.{Labels.active, Labels.AreLabels, Telling.Tells}
use Rattle.rv_pairs.proofs.labels.telling.Given as goal

abbrev pub invariant-loop-place : goal.invariant-loop-place
invariant-loop-place l = record {
  labels : (nodes : List Triple) → AreLabels nodes l.labels → AreLabels nodes l.told;
  told : (nodes : List Triple) (v : Valuation) → Tells (active nodes (take l.place l.labels) v) (active nodes l.told v);
}
