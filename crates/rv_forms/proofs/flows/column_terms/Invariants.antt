use Rattle.std.proofs.Common.{◌≡◌, ◌+◌, ◌<◌, ℕ, List, length}
use Rattle.rv_diagram.specs.declared.Triple.{Triple}
use Rattle.rv_terms.specs.Parts.{IsTermOf}
use Rattle.rv_agreement.specs.{Trees.kind_at, Valuations.rank}
use Rattle.rv_forms.specs.{Columns.kind_form, Terms.parts_at}
use Rattle.rv_forms.proofs.flows.column_terms.Given as goal

abbrev pub invariant-loop-kind : goal.invariant-loop-kind
invariant-loop-kind l = record {
  many : length l.terms ≡ l.kind-index;
  at : l.column ≡ l.start + rank l.kinds l.kind-index;
  each : (m : ℕ) → m < l.kind-index → (nodes : List Triple)
      → IsTermOf nodes l.columns (λ v. kind_form l.columns (kind_at l.kinds m) (l.start + rank l.kinds m)) (parts_at l.terms m);
}
