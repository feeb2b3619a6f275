-- The left sides whose bounds are sought, and their limits.
use Rattle.std.specs.Prelude.{◌≡◌, ℕ, ◌≤◌, ◌^◌, ℤ, List, length, All, Option, IfSome}
use Rattle.std.specs.Int.RustNames.{unsigned_abs}
use Rattle.rv_rows.specs.declared.linear.Row.{Row}

-- The row has a number for each memory, none of a magnitude above 2^20, and a bound of a magnitude of at most 2^41.
pub record IsLeftSide (memories : ℕ) (r : Row) : Type 0 where
  pub size : length r.coefficients ≡ memories
  pub numbers : All (λ c. unsigned_abs c ≤ 2 ^ 20) r.coefficients
  pub bound : unsigned_abs r.bound ≤ 2 ^ 41

-- Each of them is such a row.
abbrev pub AreLeftSides : ℕ → List Row → Type 0
AreLeftSides memories rows = All (IsLeftSide memories) rows

-- The limit is none, or of a magnitude of at most 2^41.
abbrev pub IsSmallLimit : Option ℤ → Type 0
IsSmallLimit limit = IfSome limit (λ b. unsigned_abs b ≤ 2 ^ 41)

-- There are so many limits, each of them small.
pub record AreLimits (many : ℕ) (limits : List (Option ℤ)) : Type 0 where
  pub size : length limits ≡ many
  pub small : All IsSmallLimit limits

-- Each number has a magnitude of at most 2^41.
abbrev pub AreSmall : List ℤ → Type 0
AreSmall numbers = All (λ t. unsigned_abs t ≤ 2 ^ 41) numbers

-- Each number has a magnitude of at most 2^20.
abbrev pub AreIncrements : List ℤ → Type 0
AreIncrements numbers = All (λ a. unsigned_abs a ≤ 2 ^ 20) numbers
