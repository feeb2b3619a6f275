-- The state and the inputs that a valuation and a point spell.
use Rattle.std.proofs.Common.{◌≡◌, inl, inr, ℕ, zero, suc, ◌+◌, ◌<◌, ◌≤◌, ℤ, Bool, true, false, cond, List, [], ◌∷◌, ◌++◌, length, length-append, take, refl}
use Rattle.std.proofs.Common.{sym, ◌∙◌, ap, subst, arith}
use Rattle.std.proofs.{Math.Nat.eq-or-lt_of_le, lemmas.List.get_or_push, lemmas.List.get_or_append_left}
use Rattle.std.specs.Prelude.{slice_index_or}
use Rattle.rv_base.specs.declared.value.Value.TheVariants.{Flag}
use Rattle.rv_types.specs.{declared.typed.Kind.Kind, Variables.is_integer}
use Rattle.rv_types.specs.declared.typed.Kind.TheVariants as kind
use Rattle.rv_rows.specs.declared.linear.Form.{Form}
use Rattle.rv_rows.specs.Forms as forms
use Rattle.rv_agreement.specs.{Trees.kind_at, Valuations.whole_count, Valuations.rank, Valuations.wholes, Valuations.IsCodedAs, Agreement.HasKind}
use Rattle.rv_agreement.specs.{Agreement.AreTyped, Agreement.IsSpelled, Agreement.forms_from}
use Rattle.rv_control.specs.Spelled.{value_at, rest_of, decoded}

-- so many of what a function gives
unfoldable pub first_of : {X : Type 0} → (ℕ → X) → ℕ → List X
first_of g zero = []
first_of g (suc n) = first_of g n ++ g n ∷ []

pub length-first : {X : Type 0} (g : ℕ → X) (n : ℕ) → length (first_of g n) ≡ n
unfolding first_of
length-first g zero = refl
length-first g (suc n) = omega (arith, length-append (first_of g n) (g n ∷ []), length-first g n)

pub first_kth : {X : Type 0} (g : ℕ → X) (n k : ℕ) (d : X) → k < n → slice_index_or (first_of g n) k d ≡ g k
unfolding first_of
first_kth g zero k d lt = absurd (omega arith)
first_kth g (suc n) k d lt = elim (eq-or-lt_of_le {n = k} {m = n} (omega arith)) [
  | inl same ↦ subst (λ j. slice_index_or (first_of g (suc n)) j d ≡ g j) (sym same) (get_or_push (first_of g n) (g n) d n (length-first g n))
  | inr below ↦ get_or_append_left (first_of g n) (g n ∷ []) d k (omega (arith, length-first g n)) ∙ first_kth g n k d below
]

rest_at : (xs : List ℤ) (k : ℕ) → forms.number k (rest_of xs) ≡ forms.number (1 + k) xs
rest_at [] k = refl
rest_at (x ∷ xs) k = let e : suc k ≡ 1 + k = omega arith in ap (λ n. forms.number n (x ∷ xs)) e

module _ (labels : List ℕ) where
  pub length-decoded : (ks : List Kind) (bits : ℕ → ℕ → Bool) (xs : List ℤ) → length (decoded labels ks bits xs) ≡ length ks
  unfolding decoded
  length-decoded [] bits xs = refl
  length-decoded (k ∷ ks) bits xs = let h = length-decoded ks (λ m. bits (suc m)) (cond (is_integer k) (rest_of xs) xs) in omega (arith, h)

  shifted : (b : Bool) (xs : List ℤ) (k : ℕ) → forms.number k (cond b (rest_of xs) xs) ≡ forms.number (cond b 1 0 + k) xs
  shifted true xs k = rest_at xs k
  shifted false xs k = let e : k ≡ 0 + k = omega arith in ap (λ n. forms.number n xs) e

  pub decoded_at : (ks : List Kind) (bits : ℕ → ℕ → Bool) (xs : List ℤ) (m : ℕ) → m < length ks
      → slice_index_or (decoded labels ks bits xs) m (Flag false) ≡ value_at labels (kind_at ks m) (bits m) (forms.number (rank ks m) xs)
  unfolding decoded
  decoded_at [] bits xs m lt = absurd (omega arith)
  decoded_at (k ∷ ks) bits xs zero lt = refl
  decoded_at (k ∷ ks) bits xs (suc m) lt =
      decoded_at ks (λ j. bits (suc j)) (cond (is_integer k) (rest_of xs) xs) m (omega arith)
      ∙ ap (value_at labels (kind_at ks m) (bits (suc m))) (shifted (is_integer k) xs (rank ks m))

  -- The integers among them are the first of the list.
  pub wholes_decoded : (ks : List Kind) (bits : ℕ → ℕ → Bool) (xs : List ℤ) → whole_count ks ≤ length xs
      → wholes ks (decoded labels ks bits xs) ≡ take (whole_count ks) xs
  unfolding decoded
  wholes_decoded [] bits xs le = refl
  wholes_decoded (kind.Bool ∷ ks) bits xs le =
      let e : whole_count ks ≡ 0 + whole_count ks = omega arith in
      wholes_decoded ks (λ m. bits (suc m)) xs (omega arith) ∙ ap (λ n. take n xs) e
  wholes_decoded (kind.Int ∷ ks) bits [] le = absurd (omega arith)
  wholes_decoded (kind.Int ∷ ks) bits (x ∷ xs) le =
      let e : suc (whole_count ks) ≡ 1 + whole_count ks = omega arith in
      ap (λ l. x ∷ l) (wholes_decoded ks (λ m. bits (suc m)) xs (omega arith)) ∙ ap (λ n. take n (x ∷ xs)) e
  wholes_decoded (kind.Labels i ∷ ks) bits xs le =
      let e : whole_count ks ≡ 0 + whole_count ks = omega arith in
      wholes_decoded ks (λ m. bits (suc m)) xs (omega arith) ∙ ap (λ n. take n xs) e

  has_kind : (k : Kind) (bits : ℕ → Bool) (z : ℤ) → IsCodedAs labels k bits → HasKind labels k (value_at labels k bits z)
  has_kind (kind.Labels i) bits z coded = coded
  has_kind _ bits z coded = tt

  pub is_spelled_at : (k : Kind) (bits : ℕ → Bool) (z : ℤ) → IsSpelled labels k bits (value_at labels k bits z)
  is_spelled_at kind.Int bits z = tt
  is_spelled_at _ bits z = refl

  pub are_typed : (ks : List Kind) (bits : ℕ → ℕ → Bool) (xs : List ℤ) → ((m : ℕ) → m < length ks → IsCodedAs labels (kind_at ks m) (bits m))
      → AreTyped labels ks (decoded labels ks bits xs)
  are_typed ks bits xs coded = record {
    many = length-decoded ks bits xs;
    each = λ m lt. subst (HasKind labels (kind_at ks m)) (sym (decoded_at ks bits xs m lt))
        (has_kind (kind_at ks m) (bits m) (forms.number (rank ks m) xs) (coded m lt));
  }

  pub are_spelled : (ks : List Kind) (bits : ℕ → ℕ → Bool) (xs : List ℤ) (m : ℕ) → m < length ks
      → IsSpelled labels (kind_at ks m) (bits m) (slice_index_or (decoded labels ks bits xs) m (Flag false))
  are_spelled ks bits xs m lt = subst (IsSpelled labels (kind_at ks m) (bits m)) (sym (decoded_at ks bits xs m lt))
      (is_spelled_at (kind_at ks m) (bits m) (forms.number (rank ks m) xs))

-- the form of an integer memory stands at its column
pub form_at : (ks : List Kind) (f : ℕ → Form) (m : ℕ) (d : Form) → m < length ks → kind_at ks m ≡ kind.Int
    → (rank ks m < whole_count ks) × (slice_index_or (forms_from ks f) (rank ks m) d ≡ f m)
form_at [] f m d lt is = absurd (omega arith)
form_at (k ∷ ks) f zero d lt is =
    subst (λ j. (0 < cond (is_integer j) 1 0 + whole_count ks)
    × (slice_index_or (cond (is_integer j) (f 0 ∷ forms_from ks (λ m. f (suc m))) (forms_from ks (λ m. f (suc m)))) 0 d ≡ f 0)) (sym is) (omega arith, refl)
form_at (k ∷ ks) f (suc m) d lt is = by (is_integer k) (form_at ks (λ j. f (suc j)) m d (omega arith) is)
  where
    by : (b : Bool) → (rank ks m < whole_count ks) × (slice_index_or (forms_from ks (λ j. f (suc j))) (rank ks m) d ≡ f (suc m))
        → (cond b 1 0 + rank ks m < cond b 1 0 + whole_count ks)
        × (slice_index_or (cond b (f 0 ∷ forms_from ks (λ j. f (suc j))) (forms_from ks (λ j. f (suc j)))) (cond b 1 0 + rank ks m) d ≡ f (suc m))
    by true h = (
      omega (arith, h.0),
      (let e : 1 + rank ks m ≡ suc (rank ks m) = omega arith in
          ap (λ n. slice_index_or (f 0 ∷ forms_from ks (λ j. f (suc j))) n d) e) ∙ h.1,
    )
    by false h = (
      omega (arith, h.0),
      (let e : 0 + rank ks m ≡ rank ks m = omega arith in ap (λ n. slice_index_or (forms_from ks (λ j. f (suc j))) n d) e)
          ∙ h.1,
    )
