use Rattle.std.proofs.Common.{◌&&◌}
use Rattle.rv_rows.specs.Arithmetic.{test_row}
use Rattle.rv_diagram.specs.Nodes.{value_of}
use Rattle.rv_diagram.specs.Growing.{Extends}
use Rattle.rv_control.specs.Tightening.{tightened}
use Rattle.rv_terms.specs.Parts.{form_at, among}
use Rattle.rv_tested.specs.Rows.{IsPut}
use Rattle.rv_tested.proofs.rows.add_rows.Given as goal

abbrev pub invariant-loop-part : goal.invariant-loop-part
invariant-loop-part l = record {
  extends : Extends l.initial.store l.store;
  put : IsPut l.initial.store.nodes l.store.nodes (λ v. value_of l.initial.store.nodes l.here v && among l.initial.store.nodes l.parts l.part-index v)
      (λ v. tightened (test_row (value_of l.initial.store.nodes l.truth v) (form_at l.initial.store.nodes l.parts v))) l.initial.answers l.answers;
}
