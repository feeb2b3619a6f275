-- Where no flow, memory or input of a flat system is an integer, its system has no columns.
use Rattle.std.proofs.Common.{◌≡◌, ℕ, zero, suc, ◌+◌, false, cond, List, [], ◌∷◌, map, refl, sym, ◌∙◌, ap, arith, Some, slice_get}
use Rattle.std.specs.List.{All}
use Rattle.rv_types.specs.{declared.typed.Kind.Kind, Variables.is_integer}
use Rattle.rv_agreement.specs.Valuations.{whole_count}
use Rattle.rv_flat.specs.{declared.parts.FlatInput.FlatInput, declared.parts.FlatMemory.FlatMemory, declared.flat.Flat.Flat}
use Rattle.rv_flat.specs.Systems.{kept_of}
use Rattle.rv_open.specs.Columns.{HasNoColumns}
use Rattle.rv_control.specs.Control.{control_of}
use Rattle.rv_run.specs.Judged.{IsControlSystem}
use Rattle.rv_flat.proofs.SystemRuns.{kept_kinds}

-- none of some types is that of integers
pub not_integer : {X : Type 0} (kind_of : X → Kind) (xs : List X) → All (λ x. is_integer (kind_of x) ≡ false) xs → (k : ℕ) (j : Kind)
    → slice_get (map kind_of xs) k ≡ Some j → is_integer j ≡ false
not_integer kind_of [] all k j is = cc
not_integer kind_of (x ∷ xs) all zero j is = let same : kind_of x ≡ j = cc in ap is_integer (sym same) ∙ all 0 x (omega arith)
not_integer kind_of (x ∷ xs) all (suc k) j is = not_integer kind_of xs (λ i d lt. all (suc i) d (omega arith)) k j is

-- and none of them is counted
none_whole : {X : Type 0} (kind_of : X → Kind) (xs : List X) → All (λ x. is_integer (kind_of x) ≡ false) xs → whole_count (map kind_of xs) ≡ 0
none_whole kind_of [] all = refl
none_whole kind_of (x ∷ xs) all =
    let here = all 0 x (omega arith) in
    let rest = none_whole kind_of xs (λ k d lt. all (suc k) d (omega (arith, lt))) in
    λ i. cond (here i) 1 0 + rest i

pub no_columns : (f : Flat) → IsControlSystem f → HasNoColumns (control_of f)
no_columns f control =
    let memories : whole_count (map (λ x. x.kind) (map (kept_of f.memories) f.memories)) ≡ 0 =
    ap whole_count (kept_kinds f.memories f.memories) ∙ none_whole (λ (m : FlatMemory). m.kind) f.memories control.memories in
    let inputs : whole_count (map (λ (i : FlatInput). i.kind) f.inputs) ≡ 0 = none_whole (λ (i : FlatInput). i.kind) f.inputs control.inputs in
    record {
      memories = memories;
      columns = λ i. memories i + inputs i;
    }
