-- A point agrees with a valuation of the system of valuations where it meets each row of the flat system there.
use Rattle.std.proofs.Common.{◌≡◌, ◌↔◌, ◌+◌, ◌-◌, ℤ, List, length, refl, sym, ◌∙◌, ap, subst, arith, Option, Some}
use Rattle.std.proofs.lemmas.List.{get_or_default}
use Rattle.std.specs.{Prelude.slice_index_or, List.Contains}
use Rattle.rv_tree.specs.Places.{Sites}
use Rattle.rv_types.specs.Lists.{Side, Variable, Next, Test}
use Rattle.rv_rows.specs.{declared.linear.Row.Row, Rows.Holds, Tight.IsTightened, Arithmetic.test_row}
use Rattle.rv_agreement.specs.Valuations.{Valuation, Reading, width, Comparison, all_comparisons, IsPresent, tested, tested_form, Agrees}
use Rattle.rv_agreement.specs.{Trees.System, Agreement.IsWell}
use Rattle.rv_diagram.specs.Nodes.{Valuation as Numbered}
use Rattle.rv_proofs.specs.Systems as systems
use Rattle.rv_control.specs.{Named.by_names, Symbolic.symbolic, Control.row_among, Control.row_of, Control.control_over, Tightening.tightened}
use Rattle.rv_control.proofs.{Listed.IsListed, Places.row_told, Places.row_there, Places.tests_are, Places.test_at, Tightened.tightened_is}

-- a variable with a row is a test
pub test_of : (s : System) (w : Valuation) (row : List (Option Reading)) (x : Variable) (r : Row) → row_of s w row x ≡ Some r
    → (p : Sites) × (side : Side) × (row_among s w row (all_comparisons s) p side ≡ Some r) × (x ≡ Test p side)
test_of s w row (Test p side) r e = (p, side, e, refl)
test_of s w row _ r e = absurd (cc)

module _ (one : (r a b : Row) → IsTightened r a → IsTightened r b → a ≡ b) (s : System) (w : Valuation) (row : List (Option Reading)) where
  -- the row of a test of a comparison at its place, from two comparisons there
  row_met : (c other : Comparison) (side : Side) (r found : Row) → other.at ≡ c.at → (other.left ≡ c.left) × (other.right ≡ c.right)
      → IsTightened (test_row (w.test other.at side) (tested_form (width s) w.test (tested s w row other) side)) found
      → IsTightened (test_row (w.test c.at side) (tested_form (width s) w.test (tested s w row c) side)) r → r ≡ found
  row_met c other side r found place apart first second =
      let same : tested_form (width s) w.test (tested s w row other) side ≡ tested_form (width s) w.test (tested s w row c) side =
      λ i. tested_form (width s) w.test
      (tested s w row (record { at = place i; clock = c.clock; operator = c.operator; left = apart.0 i; right = apart.1 i })) side in
      one (test_row (w.test c.at side) (tested_form (width s) w.test (tested s w row c) side)) r found second
      (subst (λ (z : Row). IsTightened z found) (λ i. test_row (w.test (place i) side) (same i)) first)

  -- a test whose comparison is present has its row
  pub row_is : IsWell s → (c : Comparison) (side : Side) → Contains (all_comparisons s) c → IsPresent (tested s w row c) side
      → row_of s w row (Test c.at side) ≡ Some (tightened (test_row (w.test c.at side) (tested_form (width s) w.test (tested s w row c) side)))
  row_is well c side there present =
      let asked = test_row (w.test c.at side) (tested_form (width s) w.test (tested s w row c) side) in
      let found = row_there s w row (all_comparisons s) c side there present in
      let told = row_told s w row (all_comparisons s) c.at side found.0 found.1 in
      let same = row_met c told.comparison side (tightened asked) found.0 told.place (well.apart told.comparison c told.there there told.place) told.is.1
      (tightened_is asked) in
      found.1 ∙ ap (λ r. Some r) (sym same)

module _ (one : (r a b : Row) → IsTightened r a → IsTightened r b → a ≡ b) (s : System) (names : List Variable) (well : IsWell s) (listed : IsListed s names)
    (v : Numbered) (x : List ℤ) where
  abbrev w : Valuation
  w = by_names names v

  abbrev row : List (Option Reading)
  row = symbolic s w

  pub meets : systems.Agrees (control_over s names) v x → Agrees s w row x
  meets agrees c side r there is =
      let found = row_there s w row (all_comparisons s) c side there is.0 in
      let place = listed.tests c side there is.0.side_is in
      let at : slice_index_or listed.order place.0 Next ≡ Test c.at side =
      get_or_default listed.order place.0 Next (Test c.at side) place.1 ∙ place.2 in
      let told = row_told s w row (all_comparisons s) c.at side found.0 found.1 in
      let holds = agrees.rows place.0 found.0 (omega (arith, tests_are s names listed, place.1))
      (ap (row_of s w row) (test_at s names listed place.0 place.1 ∙ at) ∙ found.1) in
      subst (λ (z : Row). Holds z x)
      (sym (row_met one s w row c told.comparison side r found.0 told.place (well.apart told.comparison c told.there there told.place) told.is.1 is.1)) holds

  agrees_there : length x ≡ width s → Agrees s w row x → systems.Agrees (control_over s names) v x
  agrees_there size agrees = record {
    size = size;
    rows = λ j r lt e.
        let at = test_of s w row (slice_index_or names (length names - (control_over s names).tests + j) Next) r e in
        let h = row_told s w row (all_comparisons s) at.0 at.1 r at.2 in
        agrees h.comparison at.1 r h.there h.is;
  }

  pub point_agrees : systems.Agrees (control_over s names) v x ↔ ((length x ≡ width s) × Agrees s w row x)
  point_agrees = (λ is. (is.size, meets is), λ both. agrees_there both.0 both.1)
