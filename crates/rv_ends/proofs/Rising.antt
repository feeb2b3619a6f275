-- The least threshold that holds a value.
use Rattle.std.proofs.Common.{◌≡◌, ℕ, ◌+◌, ◌<◌, ℤ, pos, ◌≤ℤ◌, ◌<ℤ◌, List, [], ◌∷◌, ◌++◌, take, length, Option, Some, None, slice_get, arith, refl, sym, ap, ◌∙◌}
use Rattle.std.proofs.Common.{subst, ◌⊎◌, inl, inr}
use Rattle.std.proofs.lemmas.List.Elements.{Contains-append_left, Contains-push, Contains-push_cases}
use Rattle.std.proofs.{lemmas.Int.ints, lemmas.List.take_more, lemmas.List.take_all, lemmas.Option.get_or_from_slice_get}
use Rattle.std.specs.List.{Contains}
use Rattle.rv_ends.specs.Thresholds.{IsLeastAbove}

module _ (ts : List ℤ) (x t : ℤ) where
  pub skips : (o : Option ℤ) → t <ℤ x → IsLeastAbove ts x o → IsLeastAbove (ts ++ t ∷ []) x o
  skips (Some b) l h = record {
    some = (Contains-append_left ts (t ∷ []) b h.some.0, h.some.1, λ u has le. go u le (Contains-push_cases ts t u has));
    none = tt;
  }
    where
      go : (u : ℤ) → x ≤ℤ u → Contains ts u ⊎ (t ≡ u) → b ≤ℤ u
      go u le (inl has) = h.some.2 u has le
      go u le (inr e) = absurd (omega (arith, ints))
  skips None l h = record { some = tt; none = λ u has. go u (Contains-push_cases ts t u has) }
    where
      go : (u : ℤ) → Contains ts u ⊎ (t ≡ u) → u <ℤ x
      go u (inl has) = h.none u has
      go u (inr e) = rw (sym e) l

  pub keeps : (b : ℤ) → b ≤ℤ t → IsLeastAbove ts x (Some b) → IsLeastAbove (ts ++ t ∷ []) x (Some b)
  keeps b l h = record {
    some = (Contains-append_left ts (t ∷ []) b h.some.0, h.some.1, λ u has le. go u le (Contains-push_cases ts t u has));
    none = tt;
  }
    where
      go : (u : ℤ) → x ≤ℤ u → Contains ts u ⊎ (t ≡ u) → b ≤ℤ u
      go u le (inl has) = h.some.2 u has le
      go u le (inr e) = rw (sym e) l

  pub takes : (o : Option ℤ) → x ≤ℤ t → ((b : ℤ) → o ≡ Some b → t <ℤ b) → IsLeastAbove ts x o → IsLeastAbove (ts ++ t ∷ []) x (Some t)
  takes o l less h = record { some = (Contains-push ts t, l, λ u has le. go o u le (Contains-push_cases ts t u has) h less); none = tt }
    where
      go : (o : Option ℤ) → (u : ℤ) → x ≤ℤ u → Contains ts u ⊎ (t ≡ u) → IsLeastAbove ts x o → ((b : ℤ) → o ≡ Some b → t <ℤ b) → t ≤ℤ u
      go o u le (inr e) g m = omega (arith, ints)
      go (Some b) u le (inl has) g m = let n = m b refl in let k = g.some.2 u has le in omega (arith, ints)
      go None u le (inl has) g m = let k = g.none u has in absurd (omega (arith, ints))

pub above_more : (ts : List ℤ) (x t : ℤ) (i : ℕ) (o : Option ℤ) → i < length ts → slice_get ts i ≡ Some t → IsLeastAbove (take i ts ++ t ∷ []) x o
    → IsLeastAbove (take (i + 1) ts) x o
above_more ts x t i o l at h =
    let e : take (i + 1) ts ≡ take i ts ++ t ∷ [] = take_more ts i (pos 0) l ∙ ap (λ (z : ℤ). take i ts ++ z ∷ []) (get_or_from_slice_get ts i t (pos 0) at) in
    subst (λ (us : List ℤ). IsLeastAbove us x o) (sym e) h

pub above_all : (ts : List ℤ) (x : ℤ) (i : ℕ) (o : Option ℤ) → i ≡ length ts → IsLeastAbove (take i ts) x o → IsLeastAbove ts x o
above_all ts x i o e h = subst (λ (us : List ℤ). IsLeastAbove us x o) (take_all i ts (omega arith)) h
