-- Flags of premises that are set one after another.
use Rattle.std.proofs.Common.{◌≡◌, ◌≢◌, ◌⊎◌, inl, inr, ⊎_elim, ℕ, ◌+◌, ◌<◌, ◌≤◌, List, Bool, true, false, Some, length, slice_get, arith, refl}
use Rattle.std.proofs.Common.{sym, ap, ◌∙◌, subst}
use Rattle.std.specs.Prelude.{slice_set}
use Rattle.std.proofs.lemmas.{Bool.cases_lt, List.length-set, List.get_or-set_other, Grind.get_or-set_at, Option.same_Some}
use Rattle.rv_cover.specs.Marks.{AreMarked, OneNames}

-- the premise has no flag
pub unmarked : (fs : List Bool) (first premise : ℕ) → (premise < first) ⊎ (first + length fs ≤ premise) → AreMarked fs fs first (λ p. premise ≡ p)
unmarked fs first premise out = record {
  size = refl;
  kept = λ n h. h;
  marked = λ n l e. absurd (⊎_elim (λ low. omega (arith, l, e, low)) (λ high. omega (arith, l, e, high)) out);
  only = λ n h. inl h;
}

apart : (n k : ℕ) → (n ≡ k) ⊎ (n ≢ k)
apart n k = ⊎_elim (λ lt. inr (λ e. omega (arith, lt, e))) (λ ge. ⊎_elim (λ lt. inr (λ e. omega (arith, lt, e))) (λ le. inl (omega (arith, ge, le)))
    (cases_lt k n)) (cases_lt n k)

-- it has one
pub marked_one : (fs : List Bool) (first premise k : ℕ) → premise ≡ first + k → k < length fs
    → AreMarked fs (slice_set fs k true) first (λ p. premise ≡ p)
marked_one fs first premise k is low = record {
  size = length-set fs k true;
  kept = λ n h. ⊎_elim (λ e. get_or-set_at fs k n true false e low) (λ ne. get_or-set_other fs k n true false ne ∙ h) (apart n k);
  marked = λ n l e. get_or-set_at fs k n true false (omega (arith, e, is)) low;
  only = λ n h. ⊎_elim (λ e. inr (omega (arith, e, is))) (λ ne. inl (sym (get_or-set_other fs k n true false ne) ∙ h)) (apart n k);
}

pub none_yet : (X : Type 0) (fs : List Bool) (first : ℕ) (xs : List X) (names : X → ℕ → Type 0) → AreMarked fs fs first (OneNames X 0 xs names)
none_yet X fs first xs names = record {
  size = refl;
  kept = λ n h. h;
  marked = λ n l o. let low = o.early in absurd (omega (arith, low));
  only = λ n h. inl h;
}

module _ (X : Type 0) (a b c : List Bool) (first k : ℕ) (xs : List X) (names : X → ℕ → Type 0) (x : X) (at : slice_get xs k ≡ Some x)
    (before : AreMarked a b first (OneNames X k xs names)) (now : AreMarked b c first (names x)) where
  early : (p : ℕ) (o : OneNames X (k + 1) xs names p) → o.place < k → OneNames X k xs names p
  early p o low = record { place = o.place; element = o.element; early = low; there = o.there; named = o.named }

  last : (p : ℕ) (o : OneNames X (k + 1) xs names p) → k ≤ o.place → names x p
  last p o high =
      let low = o.early in
      let same : o.place ≡ k = omega (arith, low, high) in
      subst (λ (y : X). names y p) (same_Some o.element x (sym o.there ∙ ap (slice_get xs) same ∙ at)) o.named

  later : (p : ℕ) → OneNames X k xs names p → OneNames X (k + 1) xs names p
  later p o = record { place = o.place; element = o.element; early = let low = o.early in omega (arith, low); there = o.there; named = o.named }

  -- one element more
  pub one_more : AreMarked a c first (OneNames X (k + 1) xs names)
  one_more = record {
    size = now.size ∙ before.size;
    kept = λ n h. now.kept n (before.kept n h);
    marked = λ n l o. ⊎_elim (λ low. now.kept n (before.marked n l (early (first + n) o low)))
        (λ high. now.marked n (let size = before.size in omega (arith, size, l)) (last (first + n) o high)) (cases_lt o.place k);
    only = λ n h. ⊎_elim (λ old. ⊎_elim (λ older. inl older) (λ o. inr (later (first + n) o)) (before.only n old))
        (λ r. inr (record { place = k; element = x; early = omega arith; there = at; named = r })) (now.only n h);
  }
