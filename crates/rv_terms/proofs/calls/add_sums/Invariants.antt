use Rattle.std.proofs.Common.{◌&&◌}
use Rattle.rv_diagram.specs.Nodes.{value_of}
use Rattle.rv_diagram.specs.Growing.{Extends}
use Rattle.rv_terms.specs.{Growing.GrownFor, Parts.form_at, Parts.among, Parts.AreRefs, Parts.Adds}
use Rattle.rv_rows.specs.Arithmetic.{form_sum}
use Rattle.rv_terms.proofs.calls.add_sums.Given as goal

abbrev pub invariant-loop-other : goal.invariant-loop-other
invariant-loop-other l = record {
  extends : Extends l.initial.store l.store;
  growth : GrownFor (λ v. value_of l.initial.store.nodes l.a.under v && among l.initial.store.nodes l.b l.other-index v) l.initial.store l.store;
  refs : AreRefs l.store.nodes l.parts;
  added : Adds l.initial.store.nodes l.store.nodes (λ v. value_of l.initial.store.nodes l.a.under v && among l.initial.store.nodes l.b l.other-index v)
      (λ v. form_sum l.a.form (form_at l.initial.store.nodes l.b v)) l.initial.parts l.parts;
}
