-- The left sides of candidates, and the rows that limits make of them.
use Rattle.std.specs.Prelude.{◌≡◌, ◌⊎◌, ℕ, ◌<◌, ◌≤◌, ℤ, pos, List, [], ◌∷◌, length, Option, Some, None as Nothing}
use Rattle.rv_rows.specs.{declared.linear.Row.Row, Rows.row_at}
use Rattle.rv_seek.specs.Least.{bounded}
use Rattle.rv_proofs.specs.{Systems.System, RowClaims.HasOne, RowClaims.HasTwo}

-- The left side of a candidate, with the bound 0.
pub record IsSide (s : System) (r : Row) : Type 0 where
  pub size : length r.coefficients ≡ s.memories
  pub shape : HasOne s r ⊎ HasTwo s r
  pub bound : r.bound ≡ pos 0

-- All left sides of candidates, each once.
pub record AreSides (s : System) (sides : List Row) : Type 0 where
  pub each : (k : ℕ) → k < length sides → IsSide s (row_at sides k)
  pub different : (i j : ℕ) → i < j → j < length sides → (row_at sides i).coefficients ≡ (row_at sides j).coefficients → ⊥
  pub all : (r : Row) → length r.coefficients ≡ s.memories → HasOne s r ⊎ HasTwo s r
      → (k : ℕ) × (k < length sides) × ((row_at sides k).coefficients ≡ r.coefficients)
  pub few : length sides ≤ 1024

-- The rows of those left sides that have a limit, in order.
unfoldable pub rows_with : List Row → List (Option ℤ) → List Row
rows_with [] limits = []
rows_with (side ∷ sides) [] = []
rows_with (side ∷ sides) (Nothing ∷ limits) = rows_with sides limits
rows_with (side ∷ sides) (Some b ∷ limits) = bounded side.coefficients b ∷ rows_with sides limits
