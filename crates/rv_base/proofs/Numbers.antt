-- Numbers.
use Rattle.std.proofs.Common.{◌≤◌, ℤ, ◌≤ℤ◌, arith, ◌≡◌, ◌⊎◌, pos, negsuc, ap, inl, inr, ◌+◌, ◌+ℤ◌}
use Rattle.std.proofs.lemmas.Int.{ints}
use Rattle.std.specs.Int.RustNames.{unsigned_abs}

pub le_chain : (a b c : ℤ) → a ≤ℤ b → b ≤ℤ c → a ≤ℤ c
le_chain a b c l m = omega (arith, ints)

pub one_cases : (z : ℤ) → unsigned_abs z ≡ 1 → (z ≡ pos 1) ⊎ (z ≡ negsuc 0)
one_cases (pos n) h = inl (ap pos h)
one_cases (negsuc n) h = let e : n ≡ 0 = omega arith in inr (ap negsuc e)

pub zero_add : (a : ℤ) → pos 0 +ℤ a ≡ a
zero_add a = omega (arith, ints)

pub size_zero : (z : ℤ) → unsigned_abs z ≡ 0 → z ≡ pos 0
size_zero z e = omega (arith, ints)
