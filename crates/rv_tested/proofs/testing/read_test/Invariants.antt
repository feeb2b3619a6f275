use Rattle.rv_flat.specs.Lists.{side_of}
use Rattle.rv_diagram.specs.Growing.{Extends}
use Rattle.rv_tested.specs.{Rows.IsAnswered, Testing.row_in, Testing.first_comparisons}
use Rattle.rv_tested.proofs.testing.read_test.Given as goal

abbrev pub invariant-loop-number : goal.invariant-loop-number
invariant-loop-number l = record {
  extends : Extends l.initial.store l.store;
  answered : IsAnswered l.store.nodes (row_in l.flat (first_comparisons l.flat l.compared l.number) l.at.sites (side_of l.side)) l.answers;
}
