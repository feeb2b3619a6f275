-- Rows that are handed in by one call, and those for which there is nothing to do.
use Rattle.std.proofs.Common.{◌≡◌, ℕ, ◌*◌, ◌≤◌, ℤ, pos, ◌≤ℤ◌, ◌<ℤ◌, List, true, cond, length, arith}
use Rattle.std.proofs.lemmas.Int.{ints}
use Rattle.std.specs.Prelude.{int_lt}
use Rattle.rv_rows.specs.{declared.linear.Row.Row, declared.linear.Form.Form, declared.farkas.Multipliers.Multipliers}
use Rattle.rv_accel.specs.{declared.proved.Proved.Proved, Pairs.gain, Taken.AreTaken}
use Rattle.rv_accel.specs.Around.{HasCopy, HasSum, HasSums, HasSumsOf, AreSmallSums, AreSmallSumsOf, losing, loses, gains, stays}
use Rattle.rv_accel.proofs.TakenLemmas.{taken-none, taken-less}

negative : (z : ℤ) → z <ℤ pos 0 → 1 ≤ cond (int_lt z (pos 0)) 1 0
negative z h = let e : int_lt z (pos 0) ≡ true = grind (arith, ints) in rw e (omega arith)

positive : (z : ℤ) (k : ℕ) → pos 0 <ℤ z → k ≤ cond (int_lt (pos 0) z) 1 0 * k
positive z k h = let e : int_lt (pos 0) z ≡ true = grind (arith, ints) in rw e (omega arith)

clash : (z : ℤ) → pos 0 ≤ℤ z → z <ℤ pos 0 → ⊥
clash z h k = omega (arith, ints)

module _ (Shown : Row → Multipliers → Type 0) (t : List ℤ) (a b : Proved) where
  pub sum-below-none : (S : Type 0) (p q : Row) → pos 0 ≤ℤ gain t q → AreTaken Shown (λ rows. gain t q <ℤ pos 0 → HasSum t p q rows) S (loses t q) a a
  sum-below-none S p q h = taken-less Shown (λ rows. gain t q <ℤ pos 0 → HasSum t p q rows) (λ rows. gain t q <ℤ pos 0 → HasSum t p q rows) S S 0
      (loses t q) a a
      (taken-none Shown (λ rows. gain t q <ℤ pos 0 → HasSum t p q rows) S a (λ low. absurd (clash (gain t q) h low))) (λ xs w. w) (λ s. s) (omega arith)

  pub sum-below-some : (S : Type 0) (p q : Row) → gain t q <ℤ pos 0 → AreTaken Shown (HasSum t p q) S 1 a b
      → AreTaken Shown (λ rows. gain t q <ℤ pos 0 → HasSum t p q rows) S (loses t q) a b
  sum-below-some S p q h x = taken-less Shown (HasSum t p q) (λ rows. gain t q <ℤ pos 0 → HasSum t p q rows) S S 1 (loses t q) a b x (λ xs w low. w) (λ s. s)
      (negative (gain t q) h)

  pub sums-of-none : (S : Type 0) (p : Row) (downs : List Row) → gain t p ≤ℤ pos 0 → AreTaken Shown (HasSumsOf t p downs) S (gains t p * losing t downs) a a
  sums-of-none S p downs h = taken-less Shown (HasSumsOf t p downs) (HasSumsOf t p downs) S S 0 (gains t p * losing t downs) a a
      (taken-none Shown (HasSumsOf t p downs) S a (λ up i d u v low. absurd (both (gain t p) h up))) (λ xs w. w) (λ s. s) (omega arith)
    where
      both : (z : ℤ) → z ≤ℤ pos 0 → pos 0 <ℤ z → ⊥
      both z h k = omega (arith, ints)

  pub sums-of-some : (updates : List Form) (p : Row) (downs : List Row) → pos 0 <ℤ gain t p
      → AreTaken Shown (HasSums t p downs (length downs)) (AreSmallSums t p downs) (losing t downs) a b
      → AreTaken Shown (HasSumsOf t p downs) (AreSmallSumsOf updates t p downs) (gains t p * losing t downs) a b
  sums-of-some updates p downs h x = taken-less Shown (HasSums t p downs (length downs)) (HasSumsOf t p downs) (AreSmallSums t p downs)
      (AreSmallSumsOf updates t p downs) (losing t downs) (gains t p * losing t downs) a b x (λ xs w up. w) (λ s. s.1) (positive (gain t p) (losing t downs) h)

  pub level-none : (S : Type 0) (r : Row) → pos 0 <ℤ gain t r → AreTaken Shown (λ rows. gain t r ≤ℤ pos 0 → HasCopy r rows) S (stays t r) a a
  level-none S r h = taken-less Shown (λ rows. gain t r ≤ℤ pos 0 → HasCopy r rows) (λ rows. gain t r ≤ℤ pos 0 → HasCopy r rows) S S 0 (stays t r) a a
      (taken-none Shown (λ rows. gain t r ≤ℤ pos 0 → HasCopy r rows) S a (λ low. absurd (both (gain t r) h low))) (λ xs w. w) (λ s. s) (omega arith)
    where
      both : (z : ℤ) → pos 0 <ℤ z → z ≤ℤ pos 0 → ⊥
      both z h k = omega (arith, ints)
