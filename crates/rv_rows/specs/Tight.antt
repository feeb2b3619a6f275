-- What it means to tighten a row, and the limits of a kept row.
use Rattle.std.specs.Prelude.{◌≡◌, ℕ, ◌<◌, ◌≤◌, ◌^◌, ℤ, pos, ◌+ℤ◌, ◌*ℤ◌, ◌≤ℤ◌, ◌<ℤ◌, List, All, length}
use Rattle.std.specs.Int.RustNames.{unsigned_abs}
use Prim.Native.Nat.{◌∣◌}
use Rattle.rv_rows.specs.{declared.linear.Row.Row, Rows.coefficient}

-- The greatest common divisor of the coefficients, 0 where all of them are 0.
pub record IsCommonDivisor (g : ℕ) (cs : List ℤ) : Type 0 where
  pub divides : All (λ c. g ∣ unsigned_abs c) cs
  pub greatest : (d : ℕ) → All (λ c. d ∣ unsigned_abs c) cs → d ∣ g

-- The coefficients are divided by g without a rest, and the bound is divided by g and rounded down.
pub record IsDivided (g : ℕ) (old new : Row) : Type 0 where
  pub width : length new.coefficients ≡ length old.coefficients
  pub coefficients : (k : ℕ) → coefficient k old ≡ pos g *ℤ coefficient k new
  pub lower : (pos g *ℤ new.bound) ≤ℤ old.bound
  pub upper : old.bound <ℤ (pos g *ℤ (new.bound +ℤ pos 1))

-- The row is divided by the greatest common divisor of its coefficients. A row without coefficients other than 0
-- stays as it is.
pub record IsTightened (old new : Row) : Type 0 where
  pub divisor : ℕ
  pub common : IsCommonDivisor divisor old.coefficients
  pub none : divisor ≡ 0 → new ≡ old
  pub divided : 0 < divisor → IsDivided divisor old new

-- The limits of a kept row: 2^30 for the magnitude of a coefficient, 2^60 for that of the bound.
pub record Fits (r : Row) : Type 0 where
  pub coefficients : All (λ c. unsigned_abs c ≤ 2 ^ 30) r.coefficients
  pub bound : unsigned_abs r.bound ≤ 2 ^ 60
