-- The ends of a box: for each column the rows that bound it alone most closely.
use Rattle.std.specs.Prelude.{◌≡◌, ◌≢◌, ◌⊎◌, ℕ, ◌<◌, ℤ, pos, negsuc, ◌≤ℤ◌, List, length, Option, Some, None, IfSome, IfNone, slice_index_or}
use Rattle.rv_rows.specs.{declared.linear.Row.Row, Rows.coefficient, Rows.row_at}
use Rattle.rv_proofs.specs.Boxes.{IsUnitAt}
use Rattle.rv_boxes.specs.declared.ends.End.{End}

-- The row has a number other than 0 at column k, and 0 at all others.
pub record IsOnlyColumn (r : Row) (k : ℕ) : Type 0 where
  pub here : coefficient k r ≢ pos 0
  pub others : (n : ℕ) → n ≢ k → coefficient n r ≡ pos 0

-- Premise p is the first n premises' closest row with c at the column alone.
pub record IsClosest (rows : List Row) (n k : ℕ) (c : ℤ) (p : ℕ) : Type 0 where
  pub there : p < n
  pub unit : IsUnitAt (row_at rows p) k c
  pub closest : (j : ℕ) → j < n → IsUnitAt (row_at rows j) k c → (row_at rows p).bound ≤ℤ (row_at rows j).bound

-- Of the first n premises the given one is the closest with c at the column alone, or there is none.
pub record IsEnd (rows : List Row) (n k : ℕ) (c : ℤ) (end : Option ℕ) : Type 0 where
  pub some : IfSome end (IsClosest rows n k c)
  pub none : IfNone end ((j : ℕ) → j < n → ¬ IsUnitAt (row_at rows j) k c)

abbrev pub no_end : End
no_end = record { low = None; high = None }

abbrev pub end_at : List End → ℕ → End
end_at ends k = slice_index_or ends k no_end

-- The ends of column k: the closest row `x <= b`, and the closest row `-x <= b`.
pub record IsEndAt (rows : List Row) (k : ℕ) (e : End) : Type 0 where
  pub high : IsEnd rows (length rows) k (pos 1) e.high
  pub low : IsEnd rows (length rows) k (negsuc 0) e.low

-- the ends of the first n columns
pub record AreEnds (rows : List Row) (n : ℕ) (ends : List End) : Type 0 where
  pub size : length ends ≡ n
  pub each : (k : ℕ) → k < n → IsEndAt rows k (end_at ends k)

-- The new end is the closer of the old one and the given row.
pub record IsCloser (rows : List Row) (old : Option ℕ) (p : ℕ) (new : Option ℕ) : Type 0 where
  pub at : ℕ
  pub is : new ≡ Some at
  pub kept : (old ≡ Some at) ⊎ (at ≡ p)
  pub here : (row_at rows at).bound ≤ℤ (row_at rows p).bound
  pub before : IfSome old (λ q. (row_at rows at).bound ≤ℤ (row_at rows q).bound)

-- the ends of the first n columns by the first `many` rows
pub record AreEndsAmong (rows : List Row) (many n : ℕ) (ends : List End) : Type 0 where
  pub size : length ends ≡ n
  pub high : (k : ℕ) → k < n → IsEnd rows many k (pos 1) (end_at ends k).high
  pub low : (k : ℕ) → k < n → IsEnd rows many k (negsuc 0) (end_at ends k).low

-- The new end is the closer of the old one and the given row, where that has c at the column, and else the old one.
abbrev pub IsEndWith : List Row → Option ℕ → ℤ → ℤ → ℕ → Option ℕ → Type 0
IsEndWith rows old number c p new = ((number ≡ c) × IsCloser rows old p new) ⊎ ((number ≢ c) × (new ≡ old))
