-- Limits of left sides: for each side the bound that it has, or none. Rounds loosen them.
use Rattle.std.specs.Prelude.{◌≡◌, ℕ, suc, ◌+◌, ◌<◌, ◌≤◌, ◌^◌, ℤ, pos, ◌-ℤ◌, ◌≤ℤ◌, List, [], ◌∷◌, length, Bool, true, false, Option, Some, slice_index_or}
use Rattle.std.specs.Prelude.{None as Nothing}
use Rattle.std.specs.{List.Contains, Int.RustNames.unsigned_abs}
use Rattle.rv_rows.specs.{declared.linear.Row.Row, Rows.row_at}
use Rattle.rv_ends.specs.Risen.{IsRisen}

-- the limit with a number, none past the end
abbrev pub limit_at : List (Option ℤ) → ℕ → Option ℤ
limit_at limits k = slice_index_or limits k Nothing

-- The first n limits, each risen to where what is asked holds for its left side.
pub record AreRisen (thresholds : List ℤ) (Holds : List ℤ → ℤ → Type 0) (sides : List Row) (n : ℕ) (old new : List (Option ℤ)) : Type 0 where
  pub size : length new ≡ n
  pub each : (k : ℕ) → k < n → IsRisen thresholds (Holds (row_at sides k).coefficients) (limit_at old k) (limit_at new k)

-- how far a limit may still rise, where no threshold is above 2 ^ 42
unfoldable pub room_of : Option ℤ → ℕ
room_of Nothing = 0
room_of (Some b) = suc (unsigned_abs (pos (2 ^ 42) -ℤ b))

-- and all together
unfoldable pub room : List (Option ℤ) → ℕ
room [] = 0
room (o ∷ os) = room_of o + room os

-- Some limit has been loosened, so there is less room, or else all are as before.
abbrev pub HasChanged : Bool → List (Option ℤ) → List (Option ℤ) → Type 0
HasChanged true old new = room new < room old
HasChanged false old new = new ≡ old

-- Each limit is one of the thresholds.
abbrev pub AreAmong : List ℤ → List (Option ℤ) → Type 0
AreAmong thresholds limits = (k : ℕ) (b : ℤ) → limit_at limits k ≡ Some b → Contains thresholds b

-- No limit is of a magnitude above 2^41.
abbrev pub AreSmall : List (Option ℤ) → Type 0
AreSmall limits = (k : ℕ) (b : ℤ) → limit_at limits k ≡ Some b → unsigned_abs b ≤ 2 ^ 41

-- A limit for each of so many sides: the least threshold, or none where there are none.
pub record AreFirst (thresholds : List ℤ) (many : ℕ) (limits : List (Option ℤ)) : Type 0 where
  pub size : length limits ≡ many
  pub among : AreAmong thresholds limits
  pub least : (k : ℕ) (t : ℤ) → k < many → Contains thresholds t → (b : ℤ) × (limit_at limits k ≡ Some b) × (b ≤ℤ t)
