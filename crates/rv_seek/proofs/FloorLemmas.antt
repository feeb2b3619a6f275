-- Quotients rounded down, and the bounds that they give.
use Rattle.std.proofs.Common.{◌≡◌, ℕ, suc, ◌+◌, ◌*◌, ◌/◌, ◌%◌, ◌<◌, ℤ, pos, negsuc, ◌+ℤ◌, ◌-ℤ◌, ◌*ℤ◌, ◌≤ℤ◌, List}
use Rattle.std.proofs.Common.{drop, length, get_or, Option, None, Some, IfSome, arith, ap, sym, subst, ◌∙◌}
use Rattle.std.proofs.lemmas.Int.{ints}
use Rattle.std.specs.{Int.int_div_euclid, Int.CanDivide, Int.w128, Prelude.SomeIff}
use Rattle.rv_rows.specs.{declared.linear.Row.Row, declared.linear.Form.Form, declared.farkas.Weight.Weight, declared.farkas.Multipliers.Multipliers}
use Rattle.rv_rows.specs.{Rows.row_at, Multipliers.weighted}
use Rattle.rv_rows.proofs.RowLemmas.{weighted-step}
use Rattle.rv_seek.specs.Least.{IsNoLooser}

-- a number divided by a positive one, rounded down
floor_below : (z d : ℤ) → pos 1 ≤ℤ d → (d *ℤ int_div_euclid z d) ≤ℤ z
floor_below (pos a) (pos n) h = let l : 0 < n = omega (arith, ints) in let e : n * (a / n) + a % n ≡ a = omega arith in omega (arith, ints)
floor_below (negsuc a) (pos n) h =
    let l : 0 < n = omega (arith, ints) in
    let e : n * (a / n) + a % n ≡ a = omega arith in
    let k : a % n < n = omega arith in
    let m : n * suc (a / n) ≡ n * (a / n) + n = omega arith in
    omega (arith, ints)
floor_below z (negsuc n) h = absurd (omega (arith, ints))

pub floor_some : (z w d : ℤ) (o : Option ℤ) → z ≡ w → SomeIff o (CanDivide w128 z d) (int_div_euclid z d) → IfSome o (λ q. pos 1 ≤ℤ d → (d *ℤ q) ≤ℤ w)
floor_some z w d None e h = tt
floor_some z w d (Some q) e h = λ l. rw (← e) (rw h.1 (floor_below z d l))

-- a bound that such a quotient and the constant of a form make
floor_tight : (rows : List Row) (form : Form) (m : Multipliers) (most bound : ℤ) → (m.divisor *ℤ most) ≤ℤ weighted (λ r. r.bound) rows m.weights
    → bound ≡ most +ℤ form.constant → IsNoLooser rows form bound m
floor_tight rows form m most bound h e = rw (same bound most form.constant e) h
  where
    same : (b x k : ℤ) → b ≡ x +ℤ k → b -ℤ k ≡ x
    same b x k e = omega (arith, ints)

pub floor_kept : (rows : List Row) (form : Form) (found by : Multipliers) (most bound : ℤ) → by ≡ found → pos 1 ≤ℤ by.divisor
    → (pos 1 ≤ℤ found.divisor → (found.divisor *ℤ most) ≤ℤ weighted (λ r. r.bound) rows found.weights) → bound ≡ most +ℤ form.constant
    → IsNoLooser rows form bound by
floor_kept rows form found by most bound same positive h e = floor_tight rows form by most bound (rw same (h (rw same at positive))) e

-- one step of the sum of the bounds
pub sum_step : (rows : List Row) (ws items : List Weight) (i : ℕ) (d : Weight) (s p t : ℤ) (row : Row) → items ≡ ws → i < length items
    → row_at rows (get_or items i d).premise ≡ row → p ≡ (get_or items i d).by *ℤ row.bound → t ≡ s +ℤ p
    → s +ℤ weighted (λ r. r.bound) rows (drop i ws) ≡ weighted (λ r. r.bound) rows ws
    → t +ℤ weighted (λ r. r.bound) rows (drop (i + 1) ws) ≡ weighted (λ r. r.bound) rows ws
sum_step rows ws items i d s p t row same inside here product sum h =
    subst (λ (xs : List Weight). t +ℤ weighted (λ r. r.bound) rows (drop (i + 1) xs) ≡ weighted (λ r. r.bound) rows xs) same
    (weighted-step (λ r. r.bound) rows items i d s t inside
    (subst (λ (xs : List Weight). s +ℤ weighted (λ r. r.bound) rows (drop i xs) ≡ weighted (λ r. r.bound) rows xs) (sym same) h)
    (sum ∙ ap (λ z. s +ℤ z) (product ∙ ap (λ (r : Row). (get_or items i d).by *ℤ r.bound) (sym here))))
