use Rattle.std.proofs.Common.{◌≡◌, ℕ, ◌<◌, Some, slice_get, IsTrue, get_or, false}
use Rattle.rv_base.specs.declared.value.Value.TheVariants.{Flag}
use Rattle.rv_types.specs.declared.typed.Kind.{Kind}
use Rattle.rv_agreement.specs.Checks.{constant_fits}
use Rattle.rv_flat.specs.Steps.{IsInRange, label_counts}
use Rattle.rv_hunt.proofs.typed.are_values.Given as goal

abbrev pub invariant-loop-place : goal.invariant-loop-place
invariant-loop-place l = record {
  typed : (k : ℕ) (j : Kind) → k < l.place → slice_get l.kinds k ≡ Some j → IsTrue (constant_fits (label_counts l.flat) j (get_or l.values k (Flag false)));
  within : (k : ℕ) → k < l.place → IsInRange (get_or l.values k (Flag false));
}
