-- What is handed in to the rows of the first turn and to those around a loop.
use Rattle.std.specs.Prelude.{◌≡◌, ◌⊎◌, ℕ, ◌+◌, ◌<◌, ◌≤◌, ◌^◌, ℤ, pos, ◌≤ℤ◌, ◌<ℤ◌, cond, List, length, int_lt, int_le, slice_index_or}
use Rattle.std.specs.{List.Contains, List.count_by, Int.RustNames.unsigned_abs}
use Rattle.rv_rows.specs.{declared.linear.Row.Row, declared.linear.Form.Form, declared.farkas.Multipliers.Multipliers, Rows.Holds, Rows.coefficient}
use Rattle.rv_rows.specs.{Rows.row_at, Tight.Fits}
use Rattle.rv_poly.specs.Images.{IsNarrow}
use Rattle.rv_proofs.specs.Cones.{IsInCone}
use Rattle.rv_accel.specs.{Pairs.gain, Pairs.IsLevelled, Shown.IsShownBefore, Shown.IsShownAfter, Shown.StaysTrue, Shown.MentionsReset}
use Rattle.rv_accel.specs.{Shown.IsPinned, Shown.IsMovedRow}

-- The row can be levelled: it is within the limits, over the memories, and has none that is reset.
pub record IsUsable (updates : List Form) (r : Row) : Type 0 where
  pub fits : Fits r
  pub narrow : IsNarrow (length updates) r
  pub kept : ¬ MentionsReset updates r

-- A row of the first turn: it can be levelled, or it bounds a memory that is reset and neither gains nor loses.
pub record IsDown (updates : List Form) (t : List ℤ) (r : Row) : Type 0 where
  pub fits : Fits r
  pub narrow : IsNarrow (length updates) r
  pub kinds : (¬ MentionsReset updates r) ⊎ (IsPinned updates r × (gain t r ≡ pos 0))

-- What is shown of each row of the first turn: its proof from the premises, its width, what it is, and that it bounds a
-- memory that is reset or is a premise moved along t.
pub record IsFirst (given : List Row) (updates : List Form) (t : List ℤ) (r : Row) (m : Multipliers) : Type 0 where
  pub shown : IsShownAfter given updates r m
  pub width : length r.coefficients ≡ length t
  pub down : IsDown updates t r
  pub origin : IsPinned updates r ⊎ ((p : Row) × Contains given p × IsMovedRow t p r)

-- What is shown of each row around: its proof from the premises, its width, and that it holds after each turn and in the cone of the premises.
pub record IsAround (given : List Row) (updates : List Form) (t : List ℤ) (r : Row) (m : Multipliers) : Type 0 where
  pub shown : IsShownBefore given r m
  pub width : length r.coefficients ≡ length t
  pub stays : StaysTrue updates t r
  pub cone : (x : List ℤ) → IsInCone given t x → Holds r x

-- The weights and the sum of two rows are within their limits.
pub record IsSmallPair (t : List ℤ) (p q : Row) : Type 0 where
  pub up : unsigned_abs (gain t p) ≤ 2 ^ 41
  pub down : unsigned_abs (gain t q) ≤ 2 ^ 41
  pub fits : (r : Row) → IsLevelled t p q r → Fits r

-- 1 where the row loses along t, gains, or does not gain, else 0
abbrev pub loses : List ℤ → Row → ℕ
loses t r = cond (int_lt (gain t r) (pos 0)) 1 0

abbrev pub gains : List ℤ → Row → ℕ
gains t r = cond (int_lt (pos 0) (gain t r)) 1 0

abbrev pub stays : List ℤ → Row → ℕ
stays t r = cond (int_le (gain t r) (pos 0)) 1 0

-- how many rows lose along t, gain, or do not gain
abbrev pub losing : List ℤ → List Row → ℕ
losing t rows = count_by (λ r. int_lt (gain t r) (pos 0)) rows

abbrev pub gaining : List ℤ → List Row → ℕ
gaining t rows = count_by (λ r. int_lt (pos 0) (gain t r)) rows

abbrev pub staying : List ℤ → List Row → ℕ
staying t rows = count_by (λ r. int_le (gain t r) (pos 0)) rows

-- The row is there, over its columns other than 0.
abbrev pub HasCopy : Row → List Row → Type 0
HasCopy r rows = (s : Row) × ((k : ℕ) → coefficient k s ≡ coefficient k r) × (s.bound ≡ r.bound) × Contains rows s

-- The row, moved along t, is there.
abbrev pub HasMoved : List ℤ → Row → List Row → Type 0
HasMoved t r rows = (s : Row) × IsMovedRow t r s × Contains rows s

-- A levelled sum of the two rows is there.
abbrev pub HasSum : List ℤ → Row → Row → List Row → Type 0
HasSum t p q rows = (s : Row) × IsLevelled t p q s × Contains rows s

-- So is each of the first n rows, moved along t.
abbrev pub HaveMoved : List ℤ → List Row → ℕ → List Row → Type 0
HaveMoved t from n rows = (i : ℕ) (d : Row) → i < n → i < length from → HasMoved t (slice_index_or from i d) rows

-- So is each of the first n rows that does not gain.
abbrev pub HasLevel : List ℤ → List Row → ℕ → List Row → Type 0
HasLevel t downs n rows = (i : ℕ) (d : Row) → i < n → i < length downs → gain t (slice_index_or downs i d) ≤ℤ pos 0 → HasCopy (slice_index_or downs i d) rows

-- So is a sum of the row with each of the first n rows that loses.
abbrev pub HasSums : List ℤ → Row → List Row → ℕ → List Row → Type 0
HasSums t p downs n rows = (i : ℕ) (d : Row) → i < n → i < length downs → gain t (slice_index_or downs i d) <ℤ pos 0
    → HasSum t p (slice_index_or downs i d) rows

-- So it is for a row that gains,
abbrev pub HasSumsOf : List ℤ → Row → List Row → List Row → Type 0
HasSumsOf t p downs rows = pos 0 <ℤ gain t p → HasSums t p downs (length downs) rows

-- and for each of the first n rows.
abbrev pub HasAllSums : List ℤ → List Row → List Row → ℕ → List Row → Type 0
HasAllSums t ups downs n rows = (i : ℕ) (d : Row) → i < n → i < length ups → HasSumsOf t (slice_index_or ups i d) downs rows

-- The row can be levelled, and its sums are within the limits.
abbrev pub AreSmallSums : List ℤ → Row → List Row → Type 0
AreSmallSums t p downs = (i : ℕ) (d : Row) → i < length downs → IsSmallPair t p (slice_index_or downs i d)

abbrev pub AreSmallSumsOf : List Form → List ℤ → Row → List Row → Type 0
AreSmallSumsOf updates t p downs = IsUsable updates p × AreSmallSums t p downs

abbrev pub AreAllSmall : List Form → List ℤ → List Row → List Row → Type 0
AreAllSmall updates t ups downs = (i : ℕ) (d : Row) → i < length ups → AreSmallSumsOf updates t (slice_index_or ups i d) downs

-- What there is around where nothing was dropped.
pub record HasAround (t : List ℤ) (turned given rows : List Row) : Type 0 where
  pub level : HasLevel t turned (length turned) rows
  pub tests : HasAllSums t given turned (length given) rows
  pub first : HasAllSums t turned turned (length turned) rows

-- The rows stand in the premises from a place on.
abbrev pub StandAt : ℕ → List Row → List Row → Type 0
StandAt place rows given = (i : ℕ) (d : Row) → i < length rows → (place + i < length given) × (row_at given (place + i) ≡ slice_index_or rows i d)

-- A premise that can be moved, with a bound within the limit.
pub record IsMovable (updates : List Form) (t : List ℤ) (r : Row) : Type 0 where
  pub usable : IsUsable updates r
  pub bound : (s : Row) → IsMovedRow t r s → unsigned_abs s.bound ≤ 2 ^ 60

abbrev pub AreMovable : List Form → List ℤ → List Row → Type 0
AreMovable updates t rows = (i : ℕ) (d : Row) → i < length rows → IsMovable updates t (slice_index_or rows i d)
