-- What rows show of a form.
use Rattle.std.specs.Prelude.{◌≡◌, ℤ, ℕ, List, true}
use Rattle.rv_diagram.specs.{declared.Triple.Triple, Nodes.Valuation, Nodes.value_of}
use Rattle.rv_rows.specs.{declared.linear.Form.Form, Multipliers.ShowsAtOnce}
use Rattle.rv_seek.specs.Least.{at_most}
use Rattle.rv_pairs.specs.{declared.labels.Labelled.Labelled, Labels.active}

-- Where both references are true the rows that count show at once that the form is at most z.
abbrev pub ShowForm : List Triple → List Labelled → ℕ → ℕ → Form → ℤ → Type 0
ShowForm nodes labels taken path form z = (v : Valuation) → value_of nodes taken v ≡ true → value_of nodes path v ≡ true
    → ShowsAtOnce (active nodes labels v) (at_most form z)
