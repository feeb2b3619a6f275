-- Linear rows over the whole numbers.
use Rattle.std.specs.Prelude.{ℕ, ◌≤◌, ℤ, pos, ◌+ℤ◌, ◌*ℤ◌, ◌≤ℤ◌, List, [], ◌∷◌, All, slice_index_or}
use Rattle.std.specs.Int.RustNames.{unsigned_abs}
use Rattle.rv_rows.specs.declared.linear.Row.{Row}

-- The sum of the coefficients times the numbers of a point. What one of the two lacks counts as 0.
abbrev pub dot : List ℤ → List ℤ → ℤ
dot [] xs = pos 0
dot (c ∷ cs) [] = pos 0
dot (c ∷ cs) (x ∷ xs) = (c *ℤ x) +ℤ dot cs xs

-- A row holds at a whole point where its left side is at most its bound there.
abbrev pub Holds : Row → List ℤ → Type 0
Holds r point = dot r.coefficients point ≤ℤ r.bound

-- A row's coefficient of a column: 0 at the columns beyond its width, so a row over the memories alone has
-- coefficient 0 at the inputs.
abbrev pub coefficient : ℕ → Row → ℤ
coefficient k r = slice_index_or r.coefficients k (pos 0)

-- The row with a number, and `0 <= 0` past the end.
abbrev pub row_at : List Row → ℕ → Row
row_at rows i = slice_index_or rows i (record { coefficients = []; bound = pos 0 })

-- No number of the row, its bound included, has a magnitude above n.
abbrev pub RowWithin : ℕ → Row → Type 0
RowWithin n r = All (λ c. unsigned_abs c ≤ n) r.coefficients × (unsigned_abs r.bound ≤ n)
