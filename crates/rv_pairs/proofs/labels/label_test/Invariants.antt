use Rattle.std.proofs.Common.{◌≡◌, ◌+◌, ◌++◌}
use Rattle.rv_rows.specs.Rows.{row_at}
use Rattle.rv_diagram.specs.Nodes.{Valuation}
use Rattle.rv_cases.specs.Conditions.{is_in}
use Rattle.rv_pairs.specs.Labels.{active, AreLabels}
use Rattle.rv_pairs.proofs.Counting.{answered}
use Rattle.rv_pairs.proofs.labels.label_test.Given as goal

abbrev pub invariant-loop-place : goal.invariant-loop-place
invariant-loop-place l = record {
  labels : AreLabels l.store.nodes l.labels;
  rows : (v : Valuation) → active l.store.nodes l.labels v ≡ active l.store.nodes l.initial.labels v
      ++ answered (λ k. is_in l.store.nodes l.answers (k + 1) v) (row_at l.rows) l.place;
}
