-- Loops over the groups of a record: what was read so far, and that it was right.
use Rattle.std.proofs.Common.{◌≡◌, ◌+◌, ◌*◌, ◌<◌, ℕ, zero, suc, Bool, true, false, List, [], ◌∷◌, ◌++◌, length, map, take, sym, ap, ◌∙◌, subst, arith}
use Rattle.std.proofs.lemmas.List.{length_push, map-append}
use Rattle.std.specs.Prelude.{Some, slice_get}
use Rattle.rv_invfile.specs.Rules.{Fields}
use Rattle.rv_invariant.specs.{Groups.upto, Judging.AreRight, Judging.IsWrong}
use Rattle.rv_invariant.proofs.{Grouping.right-more, Grouping.of-one, Grouping.of-two, Upto.upto-more}

pub pushed-length : {A : Type 0} (xs new : List A) (x : A) → new ≡ xs ++ x ∷ [] → length new ≡ length xs + 1
pushed-length xs new x e = ap length e ∙ length_push xs x

pub pushed-read : {A : Type 0} (item : Fields → ℕ → A) (r : Fields) (xs new : List A) (x : A) → xs ≡ upto item r (length xs) → x ≡ item r (length xs)
    → new ≡ xs ++ x ∷ [] → new ≡ upto item r (length new)
pushed-read item r xs new x h k e =
    e ∙ ap (λ y. xs ++ y ∷ []) k ∙ ap (λ l. l ++ item r (length xs) ∷ []) h ∙ sym (upto-more item r (length xs))
    ∙ ap (upto item r) (sym (pushed-length xs new x e))

pub pushed-right : {A : Type 0} (w : ℕ) (right : ℕ → ℕ → Bool) (xs new : List A) (x : A) → AreRight w (length xs) right
    → ((j : ℕ) → j < w → right (length xs) j ≡ true) → new ≡ xs ++ x ∷ [] → AreRight w (length new) right
pushed-right w right xs new x a h e = subst (λ n. AreRight w n right) (sym (pushed-length xs new x e)) (right-more w (length xs) right a h)

pub all-read : {A : Type 0} (item : Fields → ℕ → A) (r : Fields) (w : ℕ) (right : ℕ → ℕ → Bool) (xs : List A) (count : ℕ) → length xs ≡ count
    → xs ≡ upto item r (length xs) → AreRight w (length xs) right
    → (xs ≡ upto item r count) × AreRight w count right
all-read item r w right xs count e h a = (h ∙ ap (upto item r) e, subst (λ n. AreRight w n right) e a)

-- the first, second or third field of a group is its first wrong one
module _ (w : ℕ) (right : ℕ → Bool) (k : ℕ) where
  pub first-wrong : (i : ℕ) → 0 < w → i ≡ 2 + w * k → right 0 ≡ false → IsWrong w right k i
  first-wrong i l e h = record { place = 0; within = l; number = omega (arith, e); before = λ j b. absurd (omega (arith, b)); wrong = h }

  pub second-wrong : (i : ℕ) → 1 < w → i ≡ 2 + w * k + 1 → right 0 ≡ true → right 1 ≡ false → IsWrong w right k i
  second-wrong i l e a h = record { place = 1; within = l; number = e; before = of-one right a; wrong = h }

  pub third-wrong : (i : ℕ) → 2 < w → i ≡ 2 + w * k + 2 → right 0 ≡ true → right 1 ≡ true → right 2 ≡ false → IsWrong w right k i
  third-wrong i l e a b h = record { place = 2; within = l; number = e; before = of-two right a b; wrong = h }

-- one more text of a list
drop-same : {X : Type 0} (xs : List X) (i : ℕ) (x : X) → slice_get xs i ≡ Some x → take (i + 1) xs ≡ take i xs ++ x ∷ []
drop-same [] i x h = cc
drop-same (y ∷ ys) zero x h = ap (λ z. z ∷ []) (same y x h)
  where
    same : {X : Type 0} (a b : X) → Some a ≡ Some b → a ≡ b
    same a b e = cc
drop-same (y ∷ ys) (suc i) x h = let e : suc i + 1 ≡ suc (i + 1) = omega arith in ap (λ k. take k (y ∷ ys)) e ∙ ap (λ l. y ∷ l) (drop-same ys i x h)

pub mapped-more : {X Y : Type 0} (f : X → Y) (xs : List X) (i : ℕ) (x : X) (old new : List Y) (y : Y) → slice_get xs i ≡ Some x → old ≡ map f (take i xs)
    → y ≡ f x → new ≡ old ++ y ∷ [] → new ≡ map f (take (i + 1) xs)
mapped-more f xs i x old new y h k e p =
    p ∙ ap (λ z. old ++ z ∷ []) e ∙ ap (λ l. l ++ f x ∷ []) k ∙ sym (map-append f (take i xs) (x ∷ [])) ∙ ap (map f) (sym (drop-same xs i x h))
