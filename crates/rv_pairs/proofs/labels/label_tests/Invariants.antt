use Rattle.std.proofs.Common.{◌≡◌}
use Rattle.rv_diagram.specs.Nodes.{Valuation}
use Rattle.rv_proofs.specs.Systems.{System, rows_among}
use Rattle.rv_cases.specs.Questions.{AreQuestions}
use Rattle.rv_pairs.specs.Labels.{active, AreLabels}
use Rattle.rv_pairs.proofs.labels.label_tests.Given as goal

abbrev pub invariant-loop-test : goal.invariant-loop-test
invariant-loop-test l = record {
  labels : AreLabels l.store.nodes l.labels;
  rows : (s : System) → AreQuestions s l.store l.questions → (v : Valuation) → active l.store.nodes l.labels v ≡ rows_among s v l.test;
}
