-- Rows with few coefficients.
use Rattle.std.specs.Prelude.{◌≡◌, ◌⊎◌, ℕ, zero, suc, ◌+◌, ◌<◌, ◌≤◌, ℤ, pos, negsuc, List, [], ◌∷◌, ◌++◌, length, All, slice_index_or}
use Rattle.std.specs.List.{Contains}
use Rattle.rv_rows.specs.declared.linear.Row.{Row}
use Rattle.rv_poly.specs.Polys.{IsPoly}

-- 1 for a number that is not 0
unfoldable pub present : ℤ → ℕ
present (pos zero) = 0
present (pos (suc n)) = 1
present (negsuc n) = 1

-- how many of the numbers are not 0
unfoldable pub support : List ℤ → ℕ
support [] = 0
support (c ∷ cs) = present c + support cs

-- The row is added, unless it has more coefficients that are not 0.
abbrev pub IsNotedRow : ℕ → Row → List Row → List Row → Type 0
IsNotedRow most r old new = ((support r.coefficients ≤ most) × (new ≡ old ++ r ∷ [])) ⊎ ((most < support r.coefficients) × (new ≡ old))

-- The new rows are those of the old ones that have at most so many coefficients that are not 0.
pub record IsNarrowed (most : ℕ) (old new : List Row) : Type 0 where
  pub few : length new ≤ length old
  pub from : (i : ℕ) (d : Row) → i < length new → (j : ℕ) × (j < length old) × (slice_index_or new i d ≡ slice_index_or old j d)
  pub narrow : All (λ r. support r.coefficients ≤ most) new
  pub kept : (r : Row) → Contains old r → support r.coefficients ≤ most → Contains new r

-- The rows are those of a polyhedron over so many columns, each with at most so many coefficients that are not 0.
pub record SpansNarrow (most : ℕ) (rows : List Row) (width : ℕ) : Type 0 where
  pub poly : IsPoly rows
  pub widths : All (λ r. length r.coefficients ≡ width) rows
  pub narrow : All (λ r. support r.coefficients ≤ most) rows
