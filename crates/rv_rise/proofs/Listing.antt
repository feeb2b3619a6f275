-- The rows that limits make of left sides.
use Rattle.std.proofs.Common.{◌≡◌, ℕ, zero, suc, ◌<◌, ◌≤◌, ℤ, List, [], ◌∷◌, ◌++◌, ◌+◌, length, take, Option, Some, slice_get, arith, refl, sym, ap, ◌∙◌, subst}
use Rattle.std.proofs.Common.{◌⊎◌, inl, inr, None as Nothing}
use Rattle.std.proofs.lemmas.Option.{same_Some, none-some, slice_get_within}
use Rattle.std.proofs.lemmas.List.Elements.{Contains-append_left, Contains-append_right, Contains-append_cases, Contains-push, Contains-push_cases}
use Rattle.std.proofs.{lemmas.List.length-take}
use Rattle.std.specs.List.{Contains}
use Rattle.rv_rows.specs.{declared.linear.Row.Row, Rows.row_at}
use Rattle.rv_seek.specs.Least.{bounded}
use Rattle.rv_rise.specs.{Limits.limit_at, Sides.rows_with}
use Rattle.rv_base.proofs.Lists.{contains_got, take_push}

-- one side more
pub rows_with-push : (sides : List Row) (limits : List (Option ℤ)) (r : Row) (o : Option ℤ) → length limits ≡ length sides
    → rows_with (sides ++ r ∷ []) (limits ++ o ∷ []) ≡ rows_with sides limits ++ rows_with (r ∷ []) (o ∷ [])
unfolding rows_with
rows_with-push [] [] r o e = refl
rows_with-push [] (x ∷ limits) r o e = absurd (omega (arith, e))
rows_with-push (side ∷ sides) [] r o e = absurd (omega (arith, e))
rows_with-push (side ∷ sides) (Nothing ∷ limits) r o e = rows_with-push sides limits r o (omega (arith, e))
rows_with-push (side ∷ sides) (Some b ∷ limits) r o e = ap (λ (rs : List Row). bounded side.coefficients b ∷ rs)
    (rows_with-push sides limits r o (omega (arith, e)))

pub rows_with-one : (r : Row) (b : ℤ) → rows_with (r ∷ []) (Some b ∷ []) ≡ bounded r.coefficients b ∷ []
unfolding rows_with
rows_with-one r b = refl

pub rows_with-none : (r : Row) → rows_with (r ∷ []) (Nothing ∷ []) ≡ []
unfolding rows_with
rows_with-none r = refl

pub rows_with-nil : rows_with [] [] ≡ []
unfolding rows_with
rows_with-nil = refl

pub rows_with-more : (sides : List Row) (limits : List (Option ℤ)) (i : ℕ) (r : Row) (o : Option ℤ) → length limits ≡ length sides → slice_get sides i ≡ Some r
    → slice_get limits i ≡ Some o
    → rows_with (take i sides) (take i limits) ++ rows_with (r ∷ []) (o ∷ []) ≡ rows_with (take (i + 1) sides) (take (i + 1) limits)
rows_with-more sides limits i r o e at there =
    let l = slice_get_within sides i r at in
    let m = length-take i sides in
    let n = length-take i limits in
    sym (rows_with-push (take i sides) (take i limits) r o (omega (arith, e, m, n)))
    ∙ ap (λ (rs : List Row). rows_with rs (take i limits ++ o ∷ [])) (take_push sides (take i sides) i r refl at)
    ∙ ap (λ (os : List (Option ℤ)). rows_with (take (i + 1) sides) os) (take_push limits (take i limits) i o refl there)

-- each limit has its row
pub rows_with-has : (sides : List Row) (limits : List (Option ℤ)) (k : ℕ) (b : ℤ) → k < length sides → limit_at limits k ≡ Some b
    → Contains (rows_with sides limits) (bounded (row_at sides k).coefficients b)
unfolding rows_with
rows_with-has [] limits k b l at = absurd (omega (arith, l))
rows_with-has (side ∷ sides) [] k b l at = absurd (none-some b at)
rows_with-has (side ∷ sides) (Nothing ∷ limits) zero b l at = absurd (none-some b at)
rows_with-has (side ∷ sides) (Nothing ∷ limits) (suc k) b l at = rows_with-has sides limits k b (omega (arith, l)) at
rows_with-has (side ∷ sides) (Some a ∷ limits) zero b l at =
    let e : a ≡ b = same_Some a b at in
    subst (λ (z : ℤ). Contains (bounded side.coefficients a ∷ rows_with sides limits) (bounded side.coefficients z)) e
    (Contains-append_left (bounded side.coefficients a ∷ []) (rows_with sides limits) (bounded side.coefficients a)
    (Contains-push [] (bounded side.coefficients a)))
rows_with-has (side ∷ sides) (Some a ∷ limits) (suc k) b l at =
    Contains-append_right (bounded side.coefficients a ∷ []) (rows_with sides limits) (bounded (row_at sides k).coefficients b)
    (rows_with-has sides limits k b (omega (arith, l)) at)

-- each row is that of a limit
pub record IsRowAt (sides : List Row) (limits : List (Option ℤ)) (r : Row) : Type 0 where
  pub place : ℕ
  pub there : place < length sides
  pub limit : limit_at limits place ≡ Some r.bound
  pub side : r.coefficients ≡ (row_at sides place).coefficients

next_at : (side : Row) (sides : List Row) (o : Option ℤ) (limits : List (Option ℤ)) (r : Row) → IsRowAt sides limits r → IsRowAt (side ∷ sides) (o ∷ limits) r
next_at side sides o limits r at = record { place = suc at.place; there = let l = at.there in omega (arith, l); limit = at.limit; side = at.side }

none_in : (r : Row) → Contains [] r → ⊥
none_in r (k, l, e) = omega (arith, l)

pub rows_with-from : (sides : List Row) (limits : List (Option ℤ)) (r : Row) → Contains (rows_with sides limits) r → IsRowAt sides limits r
unfolding rows_with
rows_with-from [] limits r has = absurd (none_in r has)
rows_with-from (side ∷ sides) [] r has = absurd (none_in r has)
rows_with-from (side ∷ sides) (Nothing ∷ limits) r has = next_at side sides Nothing limits r (rows_with-from sides limits r has)
rows_with-from (side ∷ sides) (Some a ∷ limits) r has = go (rows_with-from sides limits r)
    (Contains-append_cases (bounded side.coefficients a ∷ []) (rows_with sides limits) r has)
  where
    here : (bounded side.coefficients a ≡ r) → IsRowAt (side ∷ sides) (Some a ∷ limits) r
    here e = record { place = 0; there = omega arith; limit = ap (λ (x : Row). Some x.bound) e; side = ap (λ (x : Row). x.coefficients) (sym e) }

    first : Contains [] r ⊎ (bounded side.coefficients a ≡ r) → IsRowAt (side ∷ sides) (Some a ∷ limits) r
    first (inl none) = absurd (none_in r none)
    first (inr e) = here e

    go : (Contains (rows_with sides limits) r → IsRowAt sides limits r) → Contains (bounded side.coefficients a ∷ []) r ⊎ Contains (rows_with sides limits) r
        → IsRowAt (side ∷ sides) (Some a ∷ limits) r
    go rest (inl one) = first (Contains-push_cases [] (bounded side.coefficients a) r one)
    go rest (inr more) = next_at side sides (Some a) limits r (rest more)

-- no two rows have one left side
abbrev pub AreApart : List Row → Type 0
AreApart sides = (i j : ℕ) → i < j → j < length sides → (row_at sides i).coefficients ≡ (row_at sides j).coefficients → ⊥

apart_tail : (side : Row) (sides : List Row) → AreApart (side ∷ sides) → AreApart sides
apart_tail side sides h i j l m e = h (suc i) (suc j) (omega (arith, l)) (omega (arith, m)) e

apart_head : (side : Row) (sides : List Row) → AreApart (side ∷ sides) → (limits : List (Option ℤ)) (r : Row) → IsRowAt sides limits r
    → side.coefficients ≡ r.coefficients → ⊥
apart_head side sides h limits r at e = let l = at.there in h 0 (suc at.place) (omega arith) (omega (arith, l)) (e ∙ at.side)

pub rows_with-different : (sides : List Row) (limits : List (Option ℤ)) → AreApart sides → (i j : ℕ) (q r : Row) → slice_get (rows_with sides limits) i ≡ Some q
    → slice_get (rows_with sides limits) j ≡ Some r → q.coefficients ≡ r.coefficients → i ≡ j
unfolding rows_with
rows_with-different [] limits h i j q r at there e = absurd (none-some q at)
rows_with-different (side ∷ sides) [] h i j q r at there e = absurd (none-some q at)
rows_with-different (side ∷ sides) (Nothing ∷ limits) h i j q r at there e = rows_with-different sides limits (apart_tail side sides h) i j q r at there e
rows_with-different (side ∷ sides) (Some a ∷ limits) h zero zero q r at there e = refl
rows_with-different (side ∷ sides) (Some a ∷ limits) h zero (suc j) q r at there e =
    absurd (apart_head side sides h limits r (rows_with-from sides limits r (contains_got (rows_with sides limits) j r there))
    (ap (λ (x : Row). x.coefficients) (same_Some (bounded side.coefficients a) q at) ∙ e))
rows_with-different (side ∷ sides) (Some a ∷ limits) h (suc i) zero q r at there e =
    absurd (apart_head side sides h limits q (rows_with-from sides limits q (contains_got (rows_with sides limits) i q at))
    (ap (λ (x : Row). x.coefficients) (same_Some (bounded side.coefficients a) r there) ∙ sym e))
rows_with-different (side ∷ sides) (Some a ∷ limits) h (suc i) (suc j) q r at there e = ap suc
    (rows_with-different sides limits (apart_tail side sides h) i j q r at there e)

-- there are no more rows than sides
pub rows_with-few : (sides : List Row) (limits : List (Option ℤ)) → length (rows_with sides limits) ≤ length sides
unfolding rows_with
rows_with-few [] limits = omega arith
rows_with-few (side ∷ sides) [] = omega arith
rows_with-few (side ∷ sides) (Nothing ∷ limits) = let l = rows_with-few sides limits in omega (arith, l)
rows_with-few (side ∷ sides) (Some a ∷ limits) = let l = rows_with-few sides limits in omega (arith, l)
