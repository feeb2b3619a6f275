-- Limits as rows.
use Rattle.std.specs.Prelude.{◌≡◌, ℕ, ◌<◌, ◌≤◌, ℤ, pos, negsuc, List, [], ◌∷◌, ◌++◌, length, Option, Some, None as Nothing}
use Rattle.rv_rows.specs.{declared.linear.Row.Row, Rows.row_at}
use Rattle.rv_proofs.specs.Boxes.{IsUnitAt}
use Rattle.rv_boxes.specs.Limits.{limit_at}

-- The row says of one of the memories, or of its opposite, that it is at most its limit.
pub record IsLimitRow (limits : List (Option ℤ)) (memories : ℕ) (sign : ℤ) (r : Row) : Type 0 where
  pub memory : ℕ
  pub known : memory < memories
  pub unit : IsUnitAt r memory sign
  pub limit : limit_at limits memory ≡ Some r.bound
  pub width : length r.coefficients ≡ memories

-- The rows say this of the first n memories, and of each of them that has a limit.
pub record AreLimitRows (limits : List (Option ℤ)) (memories : ℕ) (sign : ℤ) (n : ℕ) (rows : List Row) : Type 0 where
  pub each : (p : ℕ) → p < length rows → IsLimitRow limits memories sign (row_at rows p)
  pub some : (k : ℕ) (b : ℤ) → k < n → limit_at limits k ≡ Some b
      → (p : ℕ) × (p < length rows) × IsUnitAt (row_at rows p) k sign × ((row_at rows p).bound ≡ b)
  pub few : length rows ≤ n

-- The row of one memory's limit has been added, where there is one.
abbrev pub IsNoted : ℕ → ℕ → ℤ → Option ℤ → List Row → List Row → Type 0
IsNoted memories memory sign Nothing old new = new ≡ old
IsNoted memories memory sign (Some b) old new = (r : Row) × (new ≡ old ++ r ∷ []) × IsUnitAt r memory sign × (r.bound ≡ b) × (length r.coefficients ≡ memories)

-- The rows of both lists of limits.
pub record AreBothRows (upper lower : List (Option ℤ)) (memories : ℕ) (rows : List Row) : Type 0 where
  pub first : List Row
  pub second : List Row
  pub are : rows ≡ first ++ second
  pub uppers : AreLimitRows upper memories (pos 1) memories first
  pub lowers : AreLimitRows lower memories (negsuc 0) memories second
