-- The rows of tests at a valuation, of two systems whose comparisons there are the same up to their order.
use Rattle.std.proofs.Common.{◌≡◌, List, refl, sym, ◌∙◌, ap, subst, Option, Some, None as Nothing}
use Rattle.std.specs.List.{Contains}
use Rattle.rv_tree.specs.Places.{Sites}
use Rattle.rv_types.specs.Lists.{Side}
use Rattle.rv_rows.specs.{declared.linear.Row.Row, Tight.IsTightened, Arithmetic.test_row}
use Rattle.rv_agreement.specs.Valuations.{Valuation, Reading, width, Comparison, all_comparisons, tested, tested_form, IsRowOf}
use Rattle.rv_agreement.specs.{Trees.System, Agreement.AreApart}
use Rattle.rv_control.specs.Control.{row_among}
use Rattle.rv_control.proofs.Places.{row_told, row_there}

-- A row has one tightened row.
abbrev pub TightensOnce : Type 0
TightensOnce = (r a b : Row) → IsTightened r a → IsTightened r b → a ≡ b

-- Each comparison of the one has one of the other at its place, with the same operands and presence.
abbrev pub HaveTested : System → System → Valuation → List (Option Reading) → List (Option Reading) → Type 0
HaveTested s t w row other = (c : Comparison) → Contains (all_comparisons s) c
    → (d : Comparison) × Contains (all_comparisons t) d × (d.at ≡ c.at) × (tested s w row c ≡ tested t w other d)

-- comparisons at one place with the same operands have one row
module _ (once : TightensOnce) (s : System) (w : Valuation) (row : List (Option Reading)) where
  one_row : (c d : Comparison) (side : Side) (r q : Row) → c.at ≡ d.at → (c.left ≡ d.left) × (c.right ≡ d.right)
      → IsRowOf (width s) w.test (tested s w row c) side r → IsRowOf (width s) w.test (tested s w row d) side q → r ≡ q
  one_row c d side r q place operands first second =
      let same : tested_form (width s) w.test (tested s w row c) side ≡ tested_form (width s) w.test (tested s w row d) side =
      λ i. tested_form (width s) w.test
      (tested s w row (record { at = place i; clock = d.clock; operator = d.operator; left = operands.0 i; right = operands.1 i })) side in
      once (test_row (w.test d.at side) (tested_form (width s) w.test (tested s w row d) side)) r q
      (subst (λ (z : Row). IsTightened z r) (λ i. test_row (w.test (place i) side) (same i)) first.1) second.1

-- a row of the one is a row of the other
pub row_to : TightensOnce → (s t : System) (w : Valuation) (row other : List (Option Reading)) → width s ≡ width t → AreApart t → HaveTested s t w row other
    → (p : Sites) (side : Side) (r : Row) → row_among s w row (all_comparisons s) p side ≡ Some r → row_among t w other (all_comparisons t) p side ≡ Some r
row_to once s t w row other wide apart have p side r e =
    let h = row_told s w row (all_comparisons s) p side r e in
    let d = have h.comparison h.there in
    let is : IsRowOf (width t) w.test (tested t w other d.0) side r = subst (λ n. IsRowOf n w.test (tested t w other d.0) side r) wide
    (subst (λ x. IsRowOf (width s) w.test x side r) d.3 h.is) in
    let found = row_there t w other (all_comparisons t) d.0 side d.1 is.0 in
    let told = row_told t w other (all_comparisons t) d.0.at side found.0 found.1 in
    let same : found.0 ≡ r = one_row once t w other told.comparison d.0 side found.0 r told.place (apart told.comparison d.0 told.there d.1 told.place) told.is
    is in
    let here : p ≡ d.0.at = sym (d.2 ∙ h.place) in
    ap (λ q. row_among t w other (all_comparisons t) q side) here ∙ found.1 ∙ ap Some same

one_option : {A : Type 0} (a b : Option A) → ((r : A) → a ≡ Some r → b ≡ Some r) → ((r : A) → b ≡ Some r → a ≡ Some r) → a ≡ b
one_option Nothing Nothing to from = refl
one_option Nothing (Some r) to from = from r refl
one_option (Some r) b to from = sym (to r refl)

-- Both have one row for each test.
pub same_rows : TightensOnce → (s t : System) (w : Valuation) (row other : List (Option Reading)) → width s ≡ width t → AreApart s → AreApart t
    → HaveTested s t w row other → HaveTested t s w other row
    → (p : Sites) (side : Side) → row_among s w row (all_comparisons s) p side ≡ row_among t w other (all_comparisons t) p side
same_rows once s t w row other wide first second to from p side =
    one_option (row_among s w row (all_comparisons s) p side) (row_among t w other (all_comparisons t) p side)
    (row_to once s t w row other wide second to p side) (row_to once t s w other row (sym wide) first from p side)
