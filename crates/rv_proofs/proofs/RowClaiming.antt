-- The row claim of two counters is closed and good.
use Rattle.std.proofs.Common.{◌≡◌, ℕ, zero, suc, ℤ, pos, negsuc, ◌+ℤ◌, ◌*ℤ◌, map, List, [], ◌∷◌, Bool, true, false, cond, Some, slice_get, get_or, arith, refl}
use Rattle.std.proofs.Common.{sym, ap, ◌∙◌, subst, inl, inr}
use Rattle.std.proofs.{lemmas.Int.ints, Math.IntN.*ℤ-zero, lemmas.Option.same_Some, lemmas.Option.none-some}
use Rattle.rv_rows.specs.{Rows.coefficient, Rows.dot, declared.linear.Row.Row, declared.linear.Form.Form, Forms.number, Forms.IsSubstituted}
use Rattle.rv_rows.specs.{Multipliers.ShowsAtOnce, Multipliers.AreShutAtOnce}
use Rattle.rv_diagram.specs.Nodes.{Valuation}
use Rattle.rv_proofs.specs.Counters.{row2, form2, pair_row, paired, less, more, equal_rows}
use Rattle.rv_proofs.specs.{Systems.updates_of, RowClaims.IsCandidate, RowClaims.IsRowClaim, RowClaims.premises_at, RowClaims.IsRowClosed, RowClaims.IsRowGood}
use Rattle.rv_rows.specs.Multipliers as shows
use Rattle.std.specs.List.{Contains}

less_candidate : IsCandidate paired (pos 0 ∷ []) less
less_candidate = record {
  size = refl;
  bound = (0, omega arith, refl);
  shape = inr (record {
    few = omega arith;
    first = 0;
    second = 1;
    different = omega arith;
    there = omega arith;
    one = inl refl;
    other = inr refl;
    others
        = elsewhere;
  });
}
  where
    elsewhere : (n : ℕ) → (n ≡ 0 → ⊥) → (n ≡ 1 → ⊥) → coefficient n less ≡ pos 0
    elsewhere zero a b = absurd (a refl)
    elsewhere (suc zero) a b = absurd (b refl)
    elsewhere (suc (suc n)) a b = refl

more_candidate : IsCandidate paired (pos 0 ∷ []) more
more_candidate = record {
  size = refl;
  bound = (0, omega arith, refl);
  shape = inr (record {
    few = omega arith;
    first = 0;
    second = 1;
    different = omega arith;
    there = omega arith;
    one = inr refl;
    other = inl refl;
    others
        = elsewhere;
  });
}
  where
    elsewhere : (n : ℕ) → (n ≡ 0 → ⊥) → (n ≡ 1 → ⊥) → coefficient n more ≡ pos 0
    elsewhere zero a b = absurd (a refl)
    elsewhere (suc zero) a b = absurd (b refl)
    elsewhere (suc (suc n)) a b = refl

-- the two rows
each_row : (P : Row → Type 0) → P less → P more → (r : Row) → Contains (less ∷ more ∷ []) r → P r
each_row P a b r (zero, l, e) = subst P e a
each_row P a b r (suc zero, l, e) = subst P e b
each_row P a b r (suc (suc n), l, e) = absurd (omega arith)

unlike : less.coefficients ≡ more.coefficients → ⊥
unlike e = let f : pos 1 ≡ negsuc 0 = ap (λ cs. get_or cs 0 (pos 0)) e in omega (arith, ints)

apart : (i j : ℕ) (q r : Row) → slice_get (less ∷ more ∷ []) i ≡ Some q → slice_get (less ∷ more ∷ []) j ≡ Some r → q.coefficients ≡ r.coefficients → i ≡ j
apart zero zero q r a b e = refl
apart (suc zero) (suc zero) q r a b e = refl
apart zero (suc zero) q r a b e = absurd (unlike (ap (λ p. p.coefficients) (same_Some less q a) ∙ e ∙ sym (ap (λ p. p.coefficients) (same_Some more r b))))
apart (suc zero) zero q r a b e = absurd (unlike (ap (λ p. p.coefficients) (same_Some less r b) ∙ sym e ∙ sym (ap (λ p. p.coefficients) (same_Some more q a))))
apart (suc (suc i)) j q r a b e = absurd (none-some q a)
apart zero (suc (suc j)) q r a b e = absurd (none-some r b)
apart (suc zero) (suc (suc j)) q r a b e = absurd (none-some r b)

pub equal_claimed : IsRowClaim paired (pos 0 ∷ []) equal_rows
equal_claimed = record {
  reached = λ v w h. refl;
  rows = each_row (IsCandidate paired (pos 0 ∷ [])) less_candidate more_candidate;
  different = apart;
}

-- the premises by the tick and the tests
premises : Bool → Bool → Bool → List Row
premises a b c = cond a
    (pair_row a b less (row2 (negsuc 0) (pos 1) (negsuc 0)) ∷ pair_row a c more (row2 (pos 1) (negsuc 0) (negsuc 0)) ∷ less ∷ more ∷ [])
    (pair_row a b less (row2 (negsuc 0) (pos 1) (negsuc 0)) ∷ pair_row a c more (row2 (pos 1) (negsuc 0) (negsuc 0)) ∷ [])

premises_are : (v : Valuation) (a b c : Bool) → v 0 ≡ a → v 3 ≡ b → v 4 ≡ c → premises_at paired equal_rows v ≡ premises a b c
unfolding premises
premises_are v true b c e f g = rw (e, f, g) refl
premises_are v false b c e f g = rw (e, f, g) refl

-- a row after the updates is shown at once
abbrev Shown : Valuation → Row → Type 0
Shown v r = (new : Row) × IsSubstituted r (updates_of paired v) new × ShowsAtOnce (premises_at paired equal_rows v) new

abbrev forms_at : Bool → List Form
forms_at a = cond a (form2 (pos 1) (pos 0) (pos 1) ∷ form2 (pos 0) (pos 1) (pos 1) ∷ []) (form2 (pos 0) (pos 0) (pos 0) ∷ form2 (pos 0) (pos 0) (pos 0) ∷ [])

forms_are : (v : Valuation) (a : Bool) → v 0 ≡ a → updates_of paired v ≡ forms_at a
forms_are v true e = rw e refl
forms_are v false e = rw e refl

shown_from : (v : Valuation) (a b c : Bool) (r new : Row) → v 0 ≡ a → v 3 ≡ b → v 4 ≡ c → IsSubstituted r (forms_at a) new
    → ShowsAtOnce (premises a b c) new → Shown v r
shown_from v a b c r new e f g sub h =
    (new, subst (λ fs. IsSubstituted r fs new) (sym (forms_are v a e)) sub, subst (λ ps. ShowsAtOnce ps new) (sym (premises_are v a b c e f g)) h)

less_after : IsSubstituted less (forms_at true) less
less_after = record { width = refl; coefficients = columns; bound = refl }
  where
    columns : (n : ℕ) → number n less.coefficients ≡ dot less.coefficients (map (λ g. number n g.coefficients) (forms_at true))
    columns zero = refl
    columns (suc zero) = refl
    columns (suc (suc n)) = refl

more_after : IsSubstituted more (forms_at true) more
more_after = record { width = refl; coefficients = columns; bound = refl }
  where
    columns : (n : ℕ) → number n more.coefficients ≡ dot more.coefficients (map (λ g. number n g.coefficients) (forms_at true))
    columns zero = refl
    columns (suc zero) = refl
    columns (suc (suc n)) = refl

abbrev none_right : Row
none_right = row2 (pos 0) (pos 0) (pos 0)

reset_after : (a b : ℤ) → IsSubstituted (row2 a b (pos 0)) (forms_at false) none_right
reset_after a b = record { width = refl; coefficients = columns; bound = let x = *ℤ-zero a in let y = *ℤ-zero b in omega (arith, ints) }
  where
    sums : (z : ℤ) → z ≡ pos 0 → z ≡ (a *ℤ pos 0) +ℤ ((b *ℤ pos 0) +ℤ pos 0)
    sums z e = let x = *ℤ-zero a in let y = *ℤ-zero b in omega (arith, ints)

    columns : (n : ℕ) → number n none_right.coefficients ≡ dot (a ∷ b ∷ []) (map (λ g. number n g.coefficients) (forms_at false))
    columns zero = sums (pos 0) refl
    columns (suc zero) = sums (pos 0) refl
    columns (suc (suc n)) = sums (pos 0) refl

zeros : (k : ℕ) → coefficient k none_right ≡ pos 0
zeros zero = refl
zeros (suc zero) = refl
zeros (suc (suc k)) = refl

row_shown : (v : Valuation) (a b c : Bool) → v 0 ≡ a → v 3 ≡ b → v 4 ≡ c → (r : Row) → Contains (less ∷ more ∷ []) r → Shown v r
unfolding premises
row_shown v true b c e f g = each_row (Shown v)
    (shown_from v true b c less less e f g less_after (shows.by_one 2 (omega arith) (λ k. refl) (omega (arith, ints))))
    (shown_from v true b c more more e f g more_after (shows.by_one 3 (omega arith) (λ k. refl) (omega (arith, ints))))
row_shown v false b c e f g = each_row (Shown v)
    (shown_from v false b c less none_right e f g (reset_after (pos 1) (negsuc 0)) (shows.by_none zeros (omega (arith, ints))))
    (shown_from v false b c more none_right e f g (reset_after (negsuc 0) (pos 1)) (shows.by_none zeros (omega (arith, ints))))

pub equal_closed : IsRowClosed paired equal_rows
equal_closed = record {
  initial = λ v h. refl;
  next = λ v h. refl;
  rows = λ v h r has. row_shown v (v 0) (v 3) (v 4) refl refl refl r has;
}

-- where a test is false the premises are shut at once
shut : (a b c : Bool) → cond b c false ≡ false → AreShutAtOnce (premises a b c)
unfolding premises
shut true true true e = absurd (cc)
shut false true true e = absurd (cc)
shut true false c e = shows.by_two 0 2 (omega arith) (omega arith)
    (elim [
      | zero ↦ refl
      | suc k ↦ elim k as (λ n. get_or [] (suc n) (pos 0) ≡ get_or (negsuc 0 ∷ pos 1 ∷ []) (suc n) (pos 0) +ℤ get_or
          (pos 1 ∷ negsuc 0 ∷ []) (suc n) (pos 0)) [ zero ↦ refl | suc n ↦ refl ]
    ]) (omega (arith, ints))
shut true true false e = shows.by_two 1 3 (omega arith) (omega arith)
    (elim [
      | zero ↦ refl
      | suc k ↦ elim k as (λ n. get_or [] (suc n) (pos 0) ≡ get_or (pos 1 ∷ negsuc 0 ∷ []) (suc n) (pos 0) +ℤ get_or
          (negsuc 0 ∷ pos 1 ∷ []) (suc n) (pos 0)) [ zero ↦ refl | suc n ↦ refl ]
    ]) (omega (arith, ints))
shut false false c e = shows.by_one 0 (omega arith) (elim [
  | zero ↦ refl
  | suc k ↦ elim k
      as (λ n. get_or [] (suc n) (pos 0) ≡ get_or (pos 0 ∷ pos 0 ∷ []) (suc n) (pos 0)) [ zero ↦ refl | suc n ↦ refl ]
]) (omega (arith, ints))
shut false true false e = shows.by_one 1 (omega arith) (elim [
  | zero ↦ refl
  | suc k ↦ elim k
      as (λ n. get_or [] (suc n) (pos 0) ≡ get_or (pos 0 ∷ pos 0 ∷ []) (suc n) (pos 0)) [ zero ↦ refl | suc n ↦ refl ]
]) (omega (arith, ints))

pub equal_good : IsRowGood paired equal_rows
equal_good v taken = go (cond (v 3) (v 4) false) refl
  where
    go : (b : Bool) → cond (v 3) (v 4) false ≡ b → cond (v 3) (v 4) false ≡ true
    go true e = e
    go false e = absurd (taken.is_open (subst AreShutAtOnce (sym (premises_are v (v 0) (v 3) (v 4) refl refl refl)) (shut (v 0) (v 3) (v 4) e)))
