-- The tightened row of a row, as a function.
use Rattle.std.specs.Prelude.{ℕ, zero, suc, ◌/◌, ◌%◌, cond, nat_eq, ℤ, pos, negsuc, List, [], ◌∷◌, map}
use Rattle.std.specs.Int.RustNames.{unsigned_abs}
use Rattle.rv_rows.specs.declared.linear.Row.{Row}

-- The greatest common divisor of two numbers by Euclid's algorithm, in at most so many steps.
unfoldable pub gcd_within : ℕ → ℕ → ℕ → ℕ
gcd_within zero a b = a
gcd_within (suc n) a zero = a
gcd_within (suc n) a (suc b) = gcd_within n (suc b) (a % suc b)

-- that of the magnitudes of some integers, 0 where all of them are 0
unfoldable pub common : List ℤ → ℕ
common [] = 0
common (c ∷ cs) = gcd_within (suc (common cs)) (unsigned_abs c) (common cs)

-- an integer divided by a number, rounded down
unfoldable pub quotient : ℤ → ℕ → ℤ
quotient (pos n) g = pos (n / g)
quotient (negsuc n) g = negsuc (n / g)

abbrev pub divided : ℕ → Row → Row
divided g r = record { coefficients = map (λ c. quotient c g) r.coefficients; bound = quotient r.bound g }

-- The row is divided by the greatest common divisor of its coefficients, and its bound rounded down; a row without
-- coefficients other than 0 stays as it is.
unfoldable pub tightened : Row → Row
tightened r = cond (nat_eq (common r.coefficients) 0) r (divided (common r.coefficients) r)
