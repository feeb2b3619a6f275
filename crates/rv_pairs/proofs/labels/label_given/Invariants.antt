use Rattle.std.proofs.Common.{◌≡◌, ◌++◌, [], take, if◌then◌else◌}
use Rattle.rv_diagram.specs.Nodes.{Valuation, value_of}
use Rattle.rv_pairs.specs.Labels.{active, AreLabels}
use Rattle.rv_pairs.proofs.labels.label_given.Given as goal

abbrev pub invariant-loop-place : goal.invariant-loop-place
invariant-loop-place l = record {
  labels : AreLabels l.store.nodes l.labels;
  rows : (v : Valuation) → active l.store.nodes l.labels v ≡ active l.store.nodes l.initial.labels v
      ++ (if value_of l.store.nodes l.under v then take l.place l.given else []);
}
