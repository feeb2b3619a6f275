use Rattle.std.proofs.Common.{length, ◌&&◌, true, [], ℕ, ◌<◌, ◌≡◌}
use Rattle.rv_rows.specs.Arithmetic.{form_times}
use Rattle.rv_terms.specs.Parts.{part_at, form_at, among, Adds}
use Rattle.rv_terms.proofs.calls.scale_in.Given as goal

abbrev pub invariant-loop-part : goal.invariant-loop-part
invariant-loop-part l = record {
  forms : (j : ℕ) → j < length l.parts → (k : ℕ) × (k < l.part-index) × ((part_at l.parts j).form ≡ form_times l.by (part_at l.a k).form);
  added : Adds l.store.nodes l.store.nodes (λ v. true && among l.store.nodes l.a l.part-index v)
      (λ v. form_times l.by (form_at l.store.nodes l.a v)) [] l.parts;
}
