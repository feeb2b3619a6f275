use Rattle.std.proofs.Common.{◌≡◌, ◌+◌, ◌*◌, ◌<◌, ℕ, pos, false, length, map}
use Rattle.std.specs.Prelude.{slice_index_or}
use Rattle.rv_base.specs.declared.value.Value.TheVariants.{Flag}
use Rattle.rv_agreement.specs.Trees.{kind_at}
use Rattle.rv_control.specs.Spelled.{value_at}
use Rattle.rv_falsify.specs.Decoding.{bits_before, bits_along}
use Rattle.rv_falsify.proofs.decoding.values_from.Given as goal

abbrev pub invariant-loop-kind : goal.invariant-loop-kind
invariant-loop-kind l = record {
  at : l.at ≡ l.first + l.step * bits_before (map (λ ls. length ls) l.labels) l.kinds l.kind-index;
  size : length l.values ≡ l.kind-index;
  each : (m : ℕ) → m < l.kind-index → slice_index_or l.values m (Flag false)
      ≡ value_at (map (λ ls. length ls) l.labels) (kind_at l.kinds m) (bits_along (map (λ ls. length ls) l.labels) l.kinds l.word l.first l.step m) (pos 0);
}
