-- What holds of a number where it holds of all before it holds of all numbers.
use Rattle.std.proofs.Common.{ℕ, zero, suc, ◌<◌, sym, subst, arith, inl, inr}
use Rattle.std.proofs.Math.Nat.{eq-or-lt_of_le}

pub each_below : (P : ℕ → Type 0) (most : ℕ) → ((n : ℕ) → n < most → ((k : ℕ) → k < n → P k) → P n) → (k : ℕ) → k < most → P k
each_below P zero next k lt = absurd (omega arith)
each_below P (suc n) next k lt =
    let before = each_below P n (λ m less. next m (omega arith)) in
    elim (eq-or-lt_of_le {n = k} {m = n} (omega arith)) [ inl same ↦ subst P (sym same) (next n (omega arith) before) | inr below ↦ before k below ]
