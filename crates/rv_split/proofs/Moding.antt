-- Where as many values of the bits occur as there may be parts, each part has one of them.
use Rattle.std.proofs.Common.{ℕ, ◌+◌, ◌<◌, ◌≤◌, ◌≡◌, ◌⊎◌, inl, inr, Bool, true, false, List, length, refl, sym, ◌∙◌, subst, ⊎_elim, arith, get_or}
use Rattle.std.proofs.lemmas.Bool.{cases_eq, cases_lt}
use Rattle.rv_diagram.specs.{Nodes.Valuation, declared.frozen.Frozen.Frozen}
use Rattle.rv_proofs.specs.Scopes.{IsIn}
use Rattle.rv_split.specs.Partitions.{HasSameValues, IsListed, part_at}
use Rattle.rv_split.specs.Modes.{OccurAtMost, AreApart}
use Rattle.rv_split.proofs.Pigeons.{pigeons}

-- the same values, of valuations in turn
pub same_sym : (bits : List ℕ) (v w : Valuation) → HasSameValues bits v w → HasSameValues bits w v
same_sym bits v w same x listed = sym (same x listed)

pub same_both : (bits : List ℕ) (v w u : Valuation) → HasSameValues bits v u → HasSameValues bits w u → HasSameValues bits v w
same_both bits v w u p q x listed = p x listed ∙ sym (q x listed)

-- n states no two of which have the same values
pub few_values : (bits : List ℕ) (set : Frozen) (limit n : ℕ) (u : ℕ → Valuation) → OccurAtMost bits set limit → ((i : ℕ) → IsIn set (u i))
    → ((i j : ℕ) → i < n → j < n → HasSameValues bits (u i) (u j) → i ≡ j) → n ≤ limit
few_values bits set limit n u occur inside apart =
    let few : n ≤ length occur.values = pigeons (length occur.values) n (λ i. (occur.each (u i) (inside i)).0)
    (λ i lt. (occur.each (u i) (inside i)).1)
    (λ i j lt less e. apart i j lt less (same_both bits (u i) (u j) (get_or occur.values (occur.each (u i) (inside i)).0 (λ x. false))
    (occur.each (u i) (inside i)).2
    (subst (λ (m : ℕ). HasSameValues bits (u j) (get_or occur.values m (λ x. false))) (sym e) (occur.each (u j) (inside j)).2))) in
    omega (arith, few, occur.few)

same_or_not : (a b : Bool) → (a ≡ b) ⊎ (a ≡ b → ⊥)
same_or_not true true = inl refl
same_or_not true false = inr (λ e. cc)
same_or_not false true = inr (λ e. cc)
same_or_not false false = inl refl

module _ (bits : List ℕ) (set : Frozen) (parts : List Frozen) (limit : ℕ) (occur : OccurAtMost bits set limit) (full : limit ≤ length parts)
    (apart : AreApart bits parts) (some : (k : ℕ) → k < length parts → (v : Valuation) × IsIn (part_at parts k) v)
    (within : (k : ℕ) (v : Valuation) → k < length parts → IsIn (part_at parts k) v → IsIn set v)
    (k : ℕ) (here : k < length parts) (v w : Valuation) (iv : IsIn (part_at parts k) v) (iw : IsIn (part_at parts k) w) where
  -- a state of each part, and one state more
  state_of : (i : ℕ) → (i ≡ k) ⊎ (i ≡ k → ⊥) → (i < length parts) ⊎ (length parts ≤ i) → Valuation
  state_of i (inl e) b = v
  state_of i (inr n) (inl lt) = (some i lt).0
  state_of i (inr n) (inr ge) = w

  inside : (i : ℕ) (a : (i ≡ k) ⊎ (i ≡ k → ⊥)) (b : (i < length parts) ⊎ (length parts ≤ i)) → IsIn set (state_of i a b)
  unfolding state_of
  inside i (inl e) b = within k v here iv
  inside i (inr n) (inl lt) = within i (some i lt).0 lt (some i lt).1
  inside i (inr n) (inr ge) = within k w here iw

  differ_at : (x : ℕ) → IsListed bits x → (v x ≡ w x → ⊥) → (i j : ℕ) → i < length parts + 1 → j < length parts + 1
      → (a : (i ≡ k) ⊎ (i ≡ k → ⊥)) (b : (i < length parts) ⊎ (length parts ≤ i)) (c : (j ≡ k) ⊎ (j ≡ k → ⊥)) (d : (j < length parts) ⊎ (length parts ≤ j))
      → HasSameValues bits (state_of i a b) (state_of j c d) → i ≡ j
  unfolding state_of
  differ_at x listed ne i j li lj (inl e) b (inl f) d same = e ∙ sym f
  differ_at x listed ne i j li lj (inl e) b (inr n) (inl lt) same = absurd (n (sym (apart k j v (some j lt).0 here lt iv (some j lt).1 same)))
  differ_at x listed ne i j li lj (inl e) b (inr n) (inr ge) same = absurd (ne (same x listed))
  differ_at x listed ne i j li lj (inr m) (inl lt) (inl f) d same = absurd (m (apart i k (some i lt).0 v lt here (some i lt).1 iv same))
  differ_at x listed ne i j li lj (inr m) (inl lt) (inr n) (inl less) same = apart i j (some i lt).0 (some j less).0 lt less (some i lt).1 (some j less).1 same
  differ_at x listed ne i j li lj (inr m) (inl lt) (inr n) (inr ge) same = absurd (m (apart i k (some i lt).0 w lt here (some i lt).1 iw same))
  differ_at x listed ne i j li lj (inr m) (inr ge) (inl f) d same = absurd (ne (sym (same x listed)))
  differ_at x listed ne i j li lj (inr m) (inr ge) (inr n) (inl lt) same = absurd (n (sym (apart k j w (some j lt).0 here lt iw (some j lt).1 same)))
  differ_at x listed ne i j li lj (inr m) (inr ge) (inr n) (inr more) same = omega (arith, li, lj, ge, more)

  pub crowded : HasSameValues bits v w
  crowded x listed = ⊎_elim
      (λ e. e)
      (λ ne. let n : length parts + 1 ≤ limit = few_values bits set limit (length parts + 1)
      (λ i. state_of i (cases_eq i k) (cases_lt i (length parts))) occur
      (λ i. inside i (cases_eq i k) (cases_lt i (length parts)))
      (λ i j li lj same. differ_at x listed ne i j li lj (cases_eq i k) (cases_lt i (length parts)) (cases_eq j k) (cases_lt j (length parts)) same) in
      absurd (omega (arith, n, full)))
      (same_or_not (v x) (w x))
