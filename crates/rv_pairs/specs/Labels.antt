-- Rows that count where their references are true.
use Rattle.std.specs.Prelude.{◌^◌, List, [], ◌∷◌, map, All, Bool, true, false}
use Rattle.std.specs.List.{filter}
use Rattle.rv_diagram.specs.{declared.Triple.Triple, Nodes.Valuation, Nodes.IsRef, Nodes.value_of}
use Rattle.rv_rows.specs.{declared.linear.Row.Row, Rows.RowWithin}
use Rattle.rv_pairs.specs.declared.labels.Labelled.{Labelled}

-- the rows that count at a valuation, in order
abbrev pub active : List Triple → List Labelled → Valuation → List Row
active nodes labels v = map (λ l. l.row) (filter (λ l. value_of nodes l.under v) labels)

-- the row where it counts, and none elsewhere
abbrev pub row_where : Bool → Row → List Row
row_where true r = r ∷ []
row_where false r = []

-- The reference is one of the list, and the row is within the limits of sums.
pub record IsLabel (nodes : List Triple) (l : Labelled) : Type 0 where
  pub under : IsRef nodes l.under
  pub row : RowWithin (2 ^ 60) l.row

-- Each of them is such a row.
abbrev pub AreLabels : List Triple → List Labelled → Type 0
AreLabels nodes labels = All (IsLabel nodes) labels
