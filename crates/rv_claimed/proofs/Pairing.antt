-- Pairs of premises: what they show at once, in whatever order the premises stand.
use Rattle.std.proofs.Common.{◌≡◌, ℕ, ◌+◌, ◌-◌, ◌<◌, ◌≤◌, ℤ, pos, ◌+ℤ◌, ◌≤ℤ◌, List, [], ◌++◌, length, arith, refl, sym, ap, ◌∙◌, ◌⊎◌, inl, inr}
use Rattle.std.proofs.lemmas.List.{get_or_append_left, get_or-append-add, get_or_past, length-append}
use Rattle.std.proofs.{lemmas.Int.ints, lemmas.Bool.cases_lt}
use Rattle.rv_rows.specs.Multipliers.{ShowsAtOnce, by_none, by_one, by_two}
use Rattle.rv_rows.specs.{declared.linear.Row.Row, Rows.coefficient, Rows.row_at}
use Rattle.rv_seek.specs.Pairs.{PairShows}
use Rattle.rv_seek.proofs.PairLemmas.{pair_from}

abbrev pub no_row : Row
no_row = record { coefficients = []; bound = pos 0 }

past : (rows : List Row) (i : ℕ) → length rows ≤ i → row_at rows i ≡ no_row
past rows i l = get_or_past rows i no_row l

same_sum : (a b : ℤ) → a +ℤ b ≡ b +ℤ a
same_sum a b = omega (arith, ints)

only_first : (a z : ℤ) → z ≡ pos 0 → a +ℤ z ≡ a
only_first a z e = omega (arith, ints)

only_second : (z b : ℤ) → z ≡ pos 0 → z +ℤ b ≡ b
only_second z b e = omega (arith, ints)

both_zero : (a b : ℤ) → a ≡ pos 0 → b ≡ pos 0 → a +ℤ b ≡ pos 0
both_zero a b e f = omega (arith, ints)

less_first : (a z b : ℤ) → z ≡ pos 0 → (a +ℤ z) ≤ℤ b → a ≤ℤ b
less_first a z b e l = omega (arith, ints)

less_second : (z a b : ℤ) → z ≡ pos 0 → (z +ℤ a) ≤ℤ b → a ≤ℤ b
less_second z a b e l = omega (arith, ints)

less_none : (a b c : ℤ) → a ≡ pos 0 → b ≡ pos 0 → (a +ℤ b) ≤ℤ c → pos 0 ≤ℤ c
less_none a b c e f l = omega (arith, ints)

less_swapped : (a b c : ℤ) → (a +ℤ b) ≤ℤ c → (b +ℤ a) ≤ℤ c
less_swapped a b c l = omega (arith, ints)

-- what a pair of different places shows is shown at once
pub pair_to : (rows : List Row) (r : Row) (i j : ℕ) → (i ≡ j → ⊥) → PairShows rows r i j → ShowsAtOnce rows r
pair_to rows r i j ne p = go (cases_lt i (length rows)) (cases_lt j (length rows))
  where
    zero_at : (k n : ℕ) → length rows ≤ n → coefficient k (row_at rows n) ≡ pos 0
    zero_at k n m = ap (coefficient k) (past rows n m)

    bound_at : (n : ℕ) → length rows ≤ n → (row_at rows n).bound ≡ pos 0
    bound_at n m = ap (λ (x : Row). x.bound) (past rows n m)

    two : i < length rows → j < length rows → (i < j) ⊎ (j ≤ i) → (j < i) ⊎ (i ≤ j) → ShowsAtOnce rows r
    two l m (inl h) k = by_two i j h m p.sides p.bounds
    two l m (inr h) (inl k) = by_two j i k l (λ n. p.sides n ∙ same_sum (coefficient n (row_at rows i)) (coefficient n (row_at rows j)))
        (less_swapped (row_at rows i).bound (row_at rows j).bound r.bound p.bounds)
    two l m (inr h) (inr k) = absurd (ne (omega arith))

    go : (i < length rows) ⊎ (length rows ≤ i) → (j < length rows) ⊎ (length rows ≤ j) → ShowsAtOnce rows r
    go (inl l) (inl m) = two l m (cases_lt i j) (cases_lt j i)
    go (inl l) (inr m) = by_one i l (λ n. p.sides n ∙ only_first (coefficient n (row_at rows i)) (coefficient n (row_at rows j)) (zero_at n j m))
        (less_first (row_at rows i).bound (row_at rows j).bound r.bound (bound_at j m) p.bounds)
    go (inr l) (inl m) = by_one j m (λ n. p.sides n ∙ only_second (coefficient n (row_at rows i)) (coefficient n (row_at rows j)) (zero_at n i l))
        (less_second (row_at rows i).bound (row_at rows j).bound r.bound (bound_at i l) p.bounds)
    go (inr l) (inr m) = by_none
        (λ n. p.sides n ∙ both_zero (coefficient n (row_at rows i)) (coefficient n (row_at rows j)) (zero_at n i l) (zero_at n j m))
        (less_none (row_at rows i).bound (row_at rows j).bound r.bound (bound_at i l) (bound_at j m) p.bounds)

-- a row with the same left side and bound is shown as well
pub shows_same : (rows : List Row) (q r : Row) → ((k : ℕ) → coefficient k r ≡ coefficient k q) → r.bound ≡ q.bound → ShowsAtOnce rows q → ShowsAtOnce rows r
shows_same rows q r sides bound (by_none a b) = by_none (λ k. sides k ∙ a k) (under q.bound r.bound (pos 0) bound b)
  where
    under : (x y z : ℤ) → y ≡ x → z ≤ℤ x → z ≤ℤ y
    under x y z e l = omega (arith, ints)
shows_same rows q r sides bound (by_one i l a b) = by_one i l (λ k. sides k ∙ a k) (under q.bound r.bound (row_at rows i).bound bound b)
  where
    under : (x y z : ℤ) → y ≡ x → z ≤ℤ x → z ≤ℤ y
    under x y z e l = omega (arith, ints)
shows_same rows q r sides bound (by_two i j l m a b) =
    by_two i j l m (λ k. sides k ∙ a k) (under q.bound r.bound ((row_at rows i).bound +ℤ (row_at rows j).bound) bound b)
  where
    under : (x y z : ℤ) → y ≡ x → z ≤ℤ x → z ≤ℤ y
    under x y z e l = omega (arith, ints)

-- where a place goes when the first a and the next b change sides
data IsMoved (a b p q : ℕ) : Type 0 where
  to_second : p < a → q ≡ b + p → IsMoved a b p q
  to_first : p ≡ a + q → q < b → IsMoved a b p q
  stays : a + b ≤ p → q ≡ p → IsMoved a b p q

moved : (a b p : ℕ) → (q : ℕ) × IsMoved a b p q
moved a b p = go (cases_lt p a) (cases_lt p (a + b))
  where
    go : (p < a) ⊎ (a ≤ p) → (p < a + b) ⊎ (a + b ≤ p) → (q : ℕ) × IsMoved a b p q
    go (inl l) m = (b + p, to_second l refl)
    go (inr l) (inl m) = (p - a, to_first (omega arith) (omega arith))
    go (inr l) (inr m) = (p, stays m refl)

apart : (a b i j p q : ℕ) → IsMoved a b i p → IsMoved a b j q → i < j → p ≡ q → ⊥
apart a b i j p q (to_second l e) (to_second m f) less same = omega arith
apart a b i j p q (to_second l e) (to_first m f) less same = omega arith
apart a b i j p q (to_second l e) (stays m f) less same = omega arith
apart a b i j p q (to_first l e) (to_second m f) less same = omega arith
apart a b i j p q (to_first l e) (to_first m f) less same = omega arith
apart a b i j p q (to_first l e) (stays m f) less same = omega arith
apart a b i j p q (stays l e) (to_second m f) less same = omega arith
apart a b i j p q (stays l e) (to_first m f) less same = omega arith
apart a b i j p q (stays l e) (stays m f) less same = omega arith

moved_row : (xs ys : List Row) (p q : ℕ) → IsMoved (length xs) (length ys) p q → row_at (ys ++ xs) q ≡ row_at (xs ++ ys) p
moved_row xs ys p q (to_second l e) =
    ap (row_at (ys ++ xs)) e ∙ get_or-append-add ys xs p no_row ∙ sym (get_or_append_left xs ys no_row p l)
moved_row xs ys p q (to_first e l) =
    get_or_append_left ys xs no_row q l ∙ sym (get_or-append-add xs ys q no_row) ∙ ap (row_at (xs ++ ys)) (sym e)
moved_row xs ys p q (stays l e) =
    past (ys ++ xs) q (omega (arith, length-append ys xs, l, e)) ∙ sym (past (xs ++ ys) p (omega (arith, length-append xs ys, l)))

-- what premises show at once they show in the other order
pub shows_swapped : (xs ys : List Row) (r : Row) → ShowsAtOnce (xs ++ ys) r → ShowsAtOnce (ys ++ xs) r
shows_swapped xs ys r shown =
    let (i, j, less, there, p) = pair_from (xs ++ ys) r shown in
    let (a, to_a) = moved (length xs) (length ys) i in
    let (b, to_b) = moved (length xs) (length ys) j in
    pair_to (ys ++ xs) r a b (apart (length xs) (length ys) i j a b to_a to_b less) (along i j a b (moved_row xs ys i a to_a) (moved_row xs ys j b to_b) p)
  where
    along : (i j a b : ℕ) → row_at (ys ++ xs) a ≡ row_at (xs ++ ys) i → row_at (ys ++ xs) b ≡ row_at (xs ++ ys) j → PairShows (xs ++ ys) r i j
        → PairShows (ys ++ xs) r a b
    along i j a b e f p = record { sides = λ k. rw (e, f) (p.sides k); bounds = rw (e, f) p.bounds }
