-- Limits of the integer memories: for each memory, or for its opposite, an upper limit or none.
use Rattle.std.specs.Prelude.{◌≡◌, ℕ, suc, ◌+◌, ◌<◌, ◌^◌, ℤ, pos, ◌-ℤ◌, ◌≤ℤ◌, List, [], ◌∷◌, Bool, true, false, Option, Some, slice_index_or}
use Rattle.std.specs.Prelude.{None as Nothing}
use Rattle.std.specs.{List.Contains, Int.RustNames.unsigned_abs}

-- the limit with a number, none past the end
abbrev pub limit_at : List (Option ℤ) → ℕ → Option ℤ
limit_at limits k = slice_index_or limits k Nothing

-- how far a limit may still rise, where no threshold is above 2 ^ 42
unfoldable pub room_of : Option ℤ → ℕ
room_of Nothing = 0
room_of (Some b) = suc (unsigned_abs (pos (2 ^ 42) -ℤ b))

-- and all together
unfoldable pub room : List (Option ℤ) → ℕ
room [] = 0
room (o ∷ os) = room_of o + room os

-- Some limit has been loosened, so there is less room, or else all are as before.
abbrev pub HasChanged : Bool → List (Option ℤ) → List (Option ℤ) → Type 0
HasChanged true old new = room new < room old
HasChanged false old new = new ≡ old

-- Each limit is one of the thresholds.
abbrev pub AreAmong : List ℤ → List (Option ℤ) → Type 0
AreAmong thresholds limits = (k : ℕ) (b : ℤ) → limit_at limits k ≡ Some b → Contains thresholds b

-- Each limit that is left was there before, and has not fallen.
abbrev pub HaveNotFallen : List (Option ℤ) → List (Option ℤ) → Type 0
HaveNotFallen old new = (k : ℕ) (b : ℤ) → limit_at new k ≡ Some b → (a : ℤ) × (limit_at old k ≡ Some a) × (a ≤ℤ b)
