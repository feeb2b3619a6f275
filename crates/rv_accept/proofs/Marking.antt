-- Flags that are marked one after another.
use Rattle.std.proofs.Common.{ℕ, ◌+◌, ◌<◌, ◌≤◌, ◌≡◌, ◌↔◌, ◌⊎◌, Bool, true, false, List, [], ◌++◌, take, drop, length, refl, sym, ap, ◌∙◌, subst, ⊎_elim}
use Rattle.std.proofs.Common.{inl, inr, arith, Some, slice_get}
use Rattle.std.proofs.lemmas.List.{append-nil, drop_all, take_all}
use Rattle.std.proofs.{lemmas.Bool.cases_lt, lemmas.Option.same_Some, lemmas.Option.slice_get_within}
use Rattle.rv_accept.specs.Needs.{SomeAt, IsMarked, AreFlags, flag_at}
use Rattle.rv_base.proofs.Truths.{clash}

pub marked_as : (p q : ℕ → Type 0) (a b : List Bool) → ((t : ℕ) → t < length a → p t ↔ q t) → IsMarked p a b → IsMarked q a b
marked_as p q a b same m = record {
  size = m.size;
  exact = λ t low. (
    λ h. ⊎_elim (λ l. inl l) (λ r. inr ((same t low).0 r)) ((m.exact t low).0 h),
    λ h. (m.exact t low).1 (⊎_elim (λ l. inl l) (λ r. inr ((same t low).1 r)) h),
  );
}

pub marked_then : (p q : ℕ → Type 0) (a b c : List Bool) → IsMarked p a b → IsMarked q b c → IsMarked (λ t. p t ⊎ q t) a c
marked_then p q a b c m n = record {
  size = n.size ∙ m.size;
  exact = λ t low. let e : length b ≡ length a = m.size in
      let less : t < length b = omega arith in (
        λ h. ⊎_elim (λ l. ⊎_elim (λ x. inl x) (λ y. inr (inl y)) ((m.exact t low).0 l)) (λ r. inr (inr r)) ((n.exact t less).0 h),
        λ h. (n.exact t less).1 (⊎_elim (λ x. inl ((m.exact t low).1 (inl x))) (λ r. ⊎_elim (λ y. inl ((m.exact t low).1 (inr y))) (λ z. inr z) r) h),
      );
}

pub marked_none : (p : ℕ → Type 0) (a : List Bool) → ((t : ℕ) → t < length a → p t → ⊥) → IsMarked p a a
marked_none p a none = record { size = refl; exact = λ t low. (λ h. inl h, λ h. ⊎_elim (λ l. l) (λ r. absurd (none t low r)) h) }

-- where none was marked before, the flags are those that are marked
pub flags_of : (n : ℕ) (p : ℕ → Type 0) (a b : List Bool) → length a ≡ n → ((t : ℕ) → flag_at a t ≡ false) → IsMarked p a b → AreFlags n p b
flags_of n p a b size none m = record {
  size = m.size ∙ size;
  exact = λ t low. let less : t < length a = omega arith in (
    λ h. ⊎_elim (λ l. absurd (clash (flag_at a t) l (none t))) (λ r. r) ((m.exact t less).0 h),
    λ h. (m.exact t less).1 (inr h),
  );
}

-- some element before number i is so
abbrev pub SomeBefore : {X : Type 0} → (X → Type 0) → List X → ℕ → Type 0
SomeBefore {X} so xs i = (n : ℕ) × (n < i) × (x : X) × (slice_get xs n ≡ Some x) × so x

module _ {X : Type 0} (so : ℕ → X → Type 0) (xs : List X) where
  pub loop_start : (a : List Bool) → IsMarked (λ t. SomeBefore (so t) xs 0) a a
  loop_start a = marked_none (λ t. SomeBefore (so t) xs 0) a (λ t low (n, less, x, at, is). absurd (omega (arith, less)))

  pub loop_more : (i : ℕ) (x : X) (a b c : List Bool) → slice_get xs i ≡ Some x → IsMarked (λ t. SomeBefore (so t) xs i) a b → IsMarked (λ t. so t x) b c
      → IsMarked (λ t. SomeBefore (so t) xs (i + 1)) a c
  loop_more i x a b c at m n = marked_as (λ t. SomeBefore (so t) xs i ⊎ so t x) (λ t. SomeBefore (so t) xs (i + 1)) a c (λ t low. (to t, from t))
      (marked_then (λ t. SomeBefore (so t) xs i) (λ t. so t x) a b c m n)
    where
      to : (t : ℕ) → SomeBefore (so t) xs i ⊎ so t x → SomeBefore (so t) xs (i + 1)
      to t h = ⊎_elim (λ (n, less, y, there, is). (n, omega (arith, less), y, there, is)) (λ is. (i, omega arith, x, at, is)) h

      from : (t : ℕ) → SomeBefore (so t) xs (i + 1) → SomeBefore (so t) xs i ⊎ so t x
      from t (n, less, y, there, is) = ⊎_elim (λ lt. inl (n, lt, y, there, is))
          (λ ge. let e : n ≡ i = omega (arith, less) in inr (subst (λ (z : X). so t z) (same_Some y x (sym there ∙ ap (λ k. slice_get xs k) e
          ∙ at)) is)) (cases_lt n i)

  pub loop_end : (i : ℕ) (a b : List Bool) → length xs ≤ i → IsMarked (λ t. SomeBefore (so t) xs i) a b → IsMarked (λ t. SomeAt (so t) xs) a b
  loop_end i a b past m = marked_as (λ t. SomeBefore (so t) xs i) (λ t. SomeAt (so t) xs) a b
      (λ t low. (
        λ (n, less, x, at, is). (n, x, at, is),
        λ (n, x, at, is). (
          n,
          (let w : n < length xs = slice_get_within xs n x at in omega
              (arith, w)),
          x,
          at,
          is,
        ),
      )) m

-- one step of a loop over the numbers of a list of coefficients
module _ (so : ℕ → Type 0) where
  pub count_start : (a : List Bool) → IsMarked (λ t. (t < 0) × so t) a a
  count_start a = marked_none (λ t. (t < 0) × so t) a (λ t low (less, is). absurd (omega (arith, less)))

  pub count_more : (i : ℕ) (asked : Bool) (a b c : List Bool) → (asked ≡ true) ↔ so i → IsMarked (λ t. (t < i) × so t) a b → IsMarked (λ t. (t ≡ i)
      × (asked ≡ true)) b c
      → IsMarked (λ t. (t < i + 1) × so t) a c
  count_more i asked a b c tells m n = marked_as (λ t. ((t < i) × so t) ⊎ ((t ≡ i) × (asked ≡ true))) (λ t. (t < i + 1) × so t) a c (λ t low. (to t, from t))
      (marked_then (λ t. (t < i) × so t) (λ t. (t ≡ i) × (asked ≡ true)) a b c m n)
    where
      to : (t : ℕ) → ((t < i) × so t) ⊎ ((t ≡ i) × (asked ≡ true)) → (t < i + 1) × so t
      to t h = ⊎_elim (λ (less, is). (omega (arith, less), is)) (λ (e, on). (omega (arith, e), subst so (sym e) (tells.0 on))) h

      from : (t : ℕ) → (t < i + 1) × so t → ((t < i) × so t) ⊎ ((t ≡ i) × (asked ≡ true))
      from t (less, is) = ⊎_elim (λ lt. inl (lt, is)) (λ ge. let e : t ≡ i = omega (arith, less) in inr (e, tells.1 (subst so e is))) (cases_lt t i)

  pub count_end : (i : ℕ) (a b : List Bool) → length a ≤ i → IsMarked (λ t. (t < i) × so t) a b → IsMarked so a b
  count_end i a b past m = marked_as (λ t. (t < i) × so t) so a b (λ t low. (λ (less, is). is, λ is. (omega (arith, low), is))) m

-- flags that were handed out as a slice, and marked
pub flags_taken : (n : ℕ) (p : ℕ → Type 0) (items new : List Bool) (len : ℕ) → len ≡ length items → length items ≡ n → ((t : ℕ) → flag_at items t ≡ false)
    → IsMarked p items new → AreFlags n p (take len (new ++ drop (length new) items))
flags_taken n p items new len e size none m =
    let same : length new ≡ length items = m.size in
    let rest : drop (length new) items ≡ [] = drop_all (length new) items (omega arith) in
    let whole : take len (new ++ drop (length new) items) ≡ new =
    ap (λ (l : List Bool). take len (new ++ l)) rest ∙ ap (λ (l : List Bool). take len l) (append-nil new) ∙ take_all len new (omega arith) in
    subst (λ (l : List Bool). AreFlags n p l) (sym whole) (flags_of n p items new size none m)
