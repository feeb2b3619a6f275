-- How many bits types have, one after the other.
use Rattle.std.proofs.Common.{◌≡◌, inl, inr, ℕ, zero, suc, ◌+◌, ◌*◌, ◌^◌, ◌<◌, ◌≤◌, Bool, true, false, cond, nat_le, List, [], ◌∷◌, length, map, refl, sym, ◌∙◌}
use Rattle.std.proofs.Common.{ap, arith}
use Rattle.std.proofs.{Math.Nat.eq-or-lt_of_le, Math.Nat.mul-le-mul_left, lemmas.Bool.and_parts, lemmas.Bool.leb-true, lemmas.Bool.le-leb}
use Rattle.std.specs.Prelude.{slice_index_or}
use Rattle.rv_types.specs.{declared.typed.Kind.Kind, Variables.bits_from}
use Rattle.rv_types.specs.declared.typed.Kind.TheVariants as kind
use Rattle.rv_agreement.specs.{Trees.kind_at, Agreement.bit_count}
use Rattle.rv_flat.specs.Facts.{all_few}
use Rattle.rv_falsify.specs.Decoding.{bits_before}
use Rattle.rv_types.proofs.ChainLaws.{no_flag}

-- eight bits are enough for 256 labels
few_from : (more b count : ℕ) → count ≤ 256 → b ≤ 8 → bits_from more b count ≤ 8
few_from zero b count few le = le
few_from (suc more) b count few le = by (nat_le count (2 ^ b)) refl (λ lt. few_from more (b + 1) count few (omega (arith, lt)))
  where
    under : nat_le count (2 ^ b) ≡ false → b < 8
    under e = elim (eq-or-lt_of_le {n = b} {m = 8} le) [
      | inl same ↦ no_flag (sym e ∙ ap (λ c. nat_le count (2 ^ c)) same ∙ le-leb count (2 ^ 8) few)
      | inr lt ↦ lt
    ]

    by : (t : Bool) → nat_le count (2 ^ b) ≡ t → (b < 8 → bits_from more (b + 1) count ≤ 8) → cond t b (bits_from more (b + 1) count) ≤ 8
    by true e later = le
    by false e later = later (under e)

labels_few : (ls : List (List (List ℕ))) (i : ℕ) → all_few 256 ls ≡ true → slice_index_or (map (λ l. length l) ls) i 0 ≤ 256
labels_few [] i few = omega arith
labels_few (l ∷ ls) zero few = leb-true (length l) 256 (and_parts (nat_le (length l) 256) (all_few 256 ls) few).0
labels_few (l ∷ ls) (suc i) few = labels_few ls i (and_parts (nat_le (length l) 256) (all_few 256 ls) few).1

-- so a code has at most eight
pub few_bits : (ls : List (List (List ℕ))) (k : Kind) → all_few 256 ls ≡ true → bit_count (map (λ l. length l) ls) k ≤ 8
few_bits ls (kind.Labels i) few =
    let count = slice_index_or (map (λ (l : List (List ℕ)). length l) ls) i 0 in
    few_from count 0 count (labels_few ls i few) (omega arith)
few_bits ls _ few = omega arith

module _ (labels : List ℕ) where
  -- the bits of one type more
  pub before_next : (ks : List Kind) (m : ℕ) → m < length ks → bits_before labels ks (suc m) ≡ bits_before labels ks m + bit_count labels (kind_at ks m)
  before_next [] m lt = absurd (omega arith)
  before_next (k ∷ ks) zero lt = omega arith
  before_next (k ∷ ks) (suc m) lt = let h = before_next ks m (omega arith) in omega (arith, h)

  pub before_more : (ks : List Kind) (m : ℕ) → m < length ks → bits_before labels ks (m + 1) ≡ bits_before labels ks m + bit_count labels (kind_at ks m)
  before_more ks m lt = ap (bits_before labels ks) (let one : m + 1 ≡ suc m = omega arith in one) ∙ before_next ks m lt

  -- those of a type are among those of all
  pub before_within : (ks : List Kind) (m : ℕ) → m < length ks
      → bits_before labels ks m + bit_count labels (kind_at ks m) ≤ bits_before labels ks (length ks)
  before_within [] m lt = absurd (omega arith)
  before_within (k ∷ ks) zero lt = omega arith
  before_within (k ∷ ks) (suc m) lt = let h = before_within ks m (omega arith) in omega (arith, h)

  -- and so many steps behind a position
  pub steps_within : (ks : List Kind) (first step m : ℕ) → m < length ks
      → first + step * bits_before labels ks m + step * bit_count labels (kind_at ks m) ≤ first + step * bits_before labels ks (length ks)
  steps_within ks first step m lt =
      let h = mul-le-mul_left step (before_within ks m lt) in
      omega (arith, h)

  pub step_more : (ks : List Kind) (first step m : ℕ) → m < length ks
      → first + step * bits_before labels ks m + step * bit_count labels (kind_at ks m) ≡ first + step * bits_before labels ks (m + 1)
  step_more ks first step m lt =
      let h = ap (λ n. step * n) (before_more ks m lt) in
      omega (arith, h)
