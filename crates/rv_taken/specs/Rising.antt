-- What holds of a bound after the updates.
use Rattle.std.specs.Prelude.{◌≡◌, ℕ, ◌<◌, ℤ, ◌≤ℤ◌, List, length, true}
use Rattle.rv_diagram.specs.{declared.Triple.Triple, Nodes.Valuation, Nodes.value_of}
use Rattle.rv_rows.specs.{declared.linear.Form.Form, Forms.value}
use Rattle.rv_cases.specs.{Conditions.is_in}
use Rattle.rv_proofs.specs.Implied.{form_at}
use Rattle.rv_ends.specs.{declared.ends.Ends.Ends, Intervals.IsWithin, Sides.box_at}

-- No form, where its answer is given, is past the bound in the box of a taken valuation.
abbrev pub HoldsAfter : List Triple → ℕ → List Ends → List ℕ → List Form → ℤ → Type 0
HoldsAfter nodes taken ends answers forms b = (v : Valuation) (i : ℕ) → i < length forms → value_of nodes taken v ≡ true → is_in nodes answers i v ≡ true
    → (point : List ℤ) → IsWithin (box_at nodes ends v) point → value (form_at forms i) point ≤ℤ b

-- the form is not past the bound in the box of a valuation at which both references are true
abbrev pub FormHolds : List Triple → ℕ → List Ends → ℕ → Form → ℤ → Type 0
FormHolds nodes taken ends answer form b = (v : Valuation) → value_of nodes taken v ≡ true → value_of nodes answer v ≡ true
    → (point : List ℤ) → IsWithin (box_at nodes ends v) point → value form point ≤ℤ b
