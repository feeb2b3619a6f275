-- What rows that count at a valuation show at once.
use Rattle.std.specs.Prelude.{◌≡◌, ℕ, ◌<◌, ℤ, ◌+ℤ◌, ◌≤ℤ◌, List, true, Some, slice_get, take}
use Rattle.std.specs.List.{Contains}
use Rattle.rv_diagram.specs.{declared.Triple.Triple, Nodes.Valuation, Nodes.value_of}
use Rattle.rv_rows.specs.{declared.linear.Row.Row, Rows.coefficient, Forms.number}
use Rattle.rv_pairs.specs.{declared.labels.Labelled.Labelled, Labels.active}

-- The left sides of the rows sum to these numbers, column by column.
abbrev pub IsSumOf : List ℤ → Row → Row → Type 0
IsSumOf numbers a b = (k : ℕ) → number k numbers ≡ coefficient k a +ℤ coefficient k b

-- The left sides of the rows sum to the wanted one, and their bounds to at most its bound.
pub record SumShows (a b wanted : Row) : Type 0 where
  pub sides : IsSumOf wanted.coefficients a b
  pub bounds : (a.bound +ℤ b.bound) ≤ℤ wanted.bound

-- Both rows count at the valuation, and show the wanted one together.
pub record BothShow (nodes : List Triple) (v : Valuation) (a b : Labelled) (wanted : Row) : Type 0 where
  pub one : value_of nodes a.under v ≡ true
  pub other : value_of nodes b.under v ≡ true
  pub shows : SumShows a.row b.row wanted

-- The row counts at the valuation, and shows the wanted one together with one of the first n rows.
pub record ShowsWith (nodes : List Triple) (v : Valuation) (labels : List Labelled) (n : ℕ) (l : Labelled) (wanted : Row) : Type 0 where
  pub here : value_of nodes l.under v ≡ true
  pub first : Row
  pub among : Contains (active nodes (take n labels) v) first
  pub shows : SumShows first l.row wanted

-- The row at a place before n counts at the valuation, and shows the wanted one together with this row, which counts too.
abbrev pub ShowsBefore : List Triple → Valuation → List Labelled → ℕ → ℕ → Labelled → Row → Type 0
ShowsBefore nodes v labels i n l wanted = (i < n) × ((one : Labelled) × (slice_get labels i ≡ Some one) × BothShow nodes v one l wanted)
