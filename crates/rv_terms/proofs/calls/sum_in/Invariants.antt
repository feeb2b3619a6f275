use Rattle.std.proofs.Common.{◌&&◌, true, []}
use Rattle.rv_diagram.specs.Growing.{Extends}
use Rattle.rv_terms.specs.{Growing.GrownFor, Parts.form_at, Parts.among, Parts.AreRefs, Parts.Adds}
use Rattle.rv_rows.specs.Arithmetic.{form_sum}
use Rattle.rv_terms.proofs.calls.sum_in.Given as goal

abbrev pub invariant-loop-part : goal.invariant-loop-part
invariant-loop-part l = record {
  extends : Extends l.initial.store l.store;
  growth : GrownFor (λ v. true && among l.initial.store.nodes l.a l.part-index v) l.initial.store l.store;
  refs : AreRefs l.store.nodes l.parts;
  added : Adds l.initial.store.nodes l.store.nodes (λ v. true && among l.initial.store.nodes l.a l.part-index v)
      (λ v. form_sum (form_at l.initial.store.nodes l.a v) (form_at l.initial.store.nodes l.b v)) [] l.parts;
}
