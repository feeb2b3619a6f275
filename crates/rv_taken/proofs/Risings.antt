-- How far a limit rises, form by form.
use Rattle.std.proofs.Common.{◌≡◌, ℕ, ◌+◌, ◌<◌, List, length, Bool, true, false, ◌&&◌, ℤ, ◌+ℤ◌, ◌-ℤ◌, ◌≤ℤ◌, pos, Option, Some, cond}
use Rattle.std.proofs.Common.{None as Nothing, sym, ap, ◌∙◌, subst, arith, ⊎_elim}
use Rattle.std.proofs.{lemmas.Bool.cases_lt, lemmas.Bool.cases_Bool, lemmas.Bool.and_parts, lemmas.Bool.and_from, lemmas.Int.ints}
use Rattle.rv_rows.specs.{declared.linear.Form.Form, Rows.dot, Forms.value}
use Rattle.rv_diagram.specs.{declared.Triple.Triple, Nodes.Valuation, Nodes.Diagrams, Nodes.IsRef}
use Rattle.rv_diagram.specs.{Nodes.value_of, Growing.Extends, Several.ref_at}
use Rattle.rv_proofs.specs.Implied as implied
use Rattle.rv_terms.specs.Parts.{form_at}
use Rattle.rv_ends.specs.{declared.sides.Side.Side, declared.ends.Ends.Ends, Intervals.Interval, Intervals.IsWithin, Intervals.HasPoint, Intervals.IsPeak}
use Rattle.rv_ends.specs.{Sides.side_at, Sides.IsSide, Sides.box_at, Sides.AreEnds, Risen.IsRisen, Risen.EndsWithin}
use Rattle.rv_taken.specs.Rising.{HoldsAfter, FormHolds}
use Rattle.rv_diagram.proofs.Growing.{extends_trans}
use Rattle.rv_ends.proofs.{Stays.box_later, Stays.side_at_later, Risen.risen_still, Risen.risen_off, Risen.risen_as, Risen.risen_both}

-- A FORM

-- what bounds the greatest value bounds the form
module _ (s a b : Diagrams) (taken answer here : ℕ) (ends : List Ends) (form : Form) (top : Side) (more : Extends s a)
    (known : IsRef s.nodes taken) (asked : IsRef s.nodes answer) (are : AreEnds s.nodes (length ends) ends)
    (means : (v : Valuation) → value_of a.nodes here v ≡ (value_of s.nodes taken v && value_of s.nodes answer v))
    (opened : (v : Valuation) → value_of s.nodes taken v ≡ true → HasPoint (box_at s.nodes ends v))
    (last : Extends a b) (ref : IsRef a.nodes here)
    (peak : (v : Valuation) → HasPoint (box_at a.nodes ends v) → IsPeak (box_at a.nodes ends v) form.coefficients (side_at b.nodes top v)) where
  peak_at : (v : Valuation) → value_of s.nodes taken v ≡ true → IsPeak (box_at s.nodes ends v) form.coefficients (side_at b.nodes top v)
  peak_at v on =
      subst (λ (box : List Interval). IsPeak box form.coefficients (side_at b.nodes top v)) (box_later s a (length ends) ends v more are)
      (peak v (subst HasPoint (sym (box_later s a (length ends) ends v more are)) (opened v on)))

  here_parts : (v : Valuation) → value_of b.nodes here v ≡ true → (value_of s.nodes taken v ≡ true) × (value_of s.nodes answer v ≡ true)
  here_parts v on = and_parts (value_of s.nodes taken v) (value_of s.nodes answer v) (sym (means v) ∙ sym (last.kept here ref v) ∙ on)

  here_from : (v : Valuation) → value_of s.nodes taken v ≡ true → value_of s.nodes answer v ≡ true → value_of b.nodes here v ≡ true
  here_from v one two = last.kept here ref v ∙ means v ∙ and_from (value_of s.nodes taken v) (value_of s.nodes answer v) one two

  side_there : (v : Valuation) → value_of b.nodes top.there v ≡ true → side_at b.nodes top v ≡ Some (form_at b.nodes top.end.parts v).constant
  side_there v on = ap (λ (x : Bool). cond x (Some (form_at b.nodes top.end.parts v).constant) Nothing) on

  side_gone : (v : Valuation) → value_of b.nodes top.there v ≡ false → side_at b.nodes top v ≡ Nothing
  side_gone v off = ap (λ (x : Bool). cond x (Some (form_at b.nodes top.end.parts v).constant) Nothing) off

  -- where there is no greatest value, no bound holds
  pub form_unbounded : (z : ℤ) → FormHolds s.nodes taken ends answer form z
      → (v : Valuation) → value_of b.nodes here v ≡ true → value_of b.nodes top.there v ≡ true
  form_unbounded z h v on = ⊎_elim (λ t. t) (λ f. absurd (no f)) (cases_Bool (value_of b.nodes top.there v))
    where
      no : value_of b.nodes top.there v ≡ false → ⊥
      no off =
          let (one, two) = here_parts v on in
          let (point, within, up) = (peak_at v one).unbounded (side_gone v off) ((z -ℤ form.constant) +ℤ pos 1) in
          let most : (dot form.coefficients point +ℤ form.constant) ≤ℤ z = h v one two point within in
          omega (arith, ints)

  module _ (bounded : (v : Valuation) → value_of b.nodes here v ≡ true → value_of b.nodes top.there v ≡ true) where
    pub form_held : (z : ℤ) → EndsWithin b.nodes here top.end.parts form.constant z → FormHolds s.nodes taken ends answer form z
    form_held z h v one two point within =
        let on : value_of b.nodes here v ≡ true = here_from v one two in
        let most : dot form.coefficients point ≤ℤ (form_at b.nodes top.end.parts v).constant =
        (peak_at v one).most (form_at b.nodes top.end.parts v).constant (side_there v (bounded v on)) point within in
        let up : ((form_at b.nodes top.end.parts v).constant +ℤ form.constant) ≤ℤ z = h v on in
        omega (arith, ints)

    pub form_ends : (z : ℤ) → FormHolds s.nodes taken ends answer form z → EndsWithin b.nodes here top.end.parts form.constant z
    form_ends z h v on =
        let (one, two) = here_parts v on in
        let (point, within, reached) = (peak_at v one).reached (form_at b.nodes top.end.parts v).constant (side_there v (bounded v on)) in
        let most : (dot form.coefficients point +ℤ form.constant) ≤ℤ z = h v one two point within in
        omega (arith, ints)

-- the same, in a store that has grown since the greatest value was found
module _ (s a g b : Diagrams) (taken answer here : ℕ) (ends : List Ends) (form : Form) (top : Side) (more : Extends s a)
    (known : IsRef s.nodes taken) (asked : IsRef s.nodes answer) (are : AreEnds s.nodes (length ends) ends)
    (means : (v : Valuation) → value_of a.nodes here v ≡ (value_of s.nodes taken v && value_of s.nodes answer v))
    (opened : (v : Valuation) → value_of s.nodes taken v ≡ true → HasPoint (box_at s.nodes ends v))
    (next : Extends a g) (last : Extends g b) (ref : IsRef a.nodes here) (n : ℕ) (side : IsSide g.nodes n top)
    (peak : (v : Valuation) → HasPoint (box_at a.nodes ends v) → IsPeak (box_at a.nodes ends v) form.coefficients (side_at g.nodes top v)) where
  peak_last : (v : Valuation) → HasPoint (box_at a.nodes ends v) → IsPeak (box_at a.nodes ends v) form.coefficients (side_at b.nodes top v)
  peak_last v some = subst (λ (o : Option ℤ). IsPeak (box_at a.nodes ends v) form.coefficients o) (sym (side_at_later g b n top v last side)) (peak v some)

  pub form_risen : (t : List ℤ) (limit new : Option ℤ) (constant : ℤ) → constant ≡ form.constant
      → ((v : Valuation) → value_of g.nodes here v ≡ true → value_of g.nodes top.there v ≡ true)
      → IsRisen t (EndsWithin b.nodes here top.end.parts constant) limit new
      → IsRisen t (FormHolds s.nodes taken ends answer form) limit new
  form_risen t limit new constant e bounded r =
      let there : (v : Valuation) → value_of b.nodes here v ≡ true → value_of b.nodes top.there v ≡ true =
      λ v on. last.kept top.there side.there v ∙ bounded v (sym (last.kept here (omega (arith, ref, next.longer)) v) ∙ on) in
      risen_as t (EndsWithin b.nodes here top.end.parts form.constant) (FormHolds s.nodes taken ends answer form) limit new
      (form_held s a b taken answer here ends form top more known asked are means opened (extends_trans a g b next last) ref peak_last there)
      (form_ends s a b taken answer here ends form top more known asked are means opened (extends_trans a g b next last) ref peak_last there)
      (subst (λ (z : ℤ). IsRisen t (EndsWithin b.nodes here top.end.parts z) limit new) e r)

  pub form_off : (t : List ℤ) (limit : Option ℤ)
      → (((v : Valuation) → value_of g.nodes here v ≡ true → value_of g.nodes top.there v ≡ true) → ⊥)
      → IsRisen t (FormHolds s.nodes taken ends answer form) limit Nothing
  form_off t limit open' = risen_off t (FormHolds s.nodes taken ends answer form) limit
      (λ x z is low among holds. open' (form_unbounded s a g taken answer here ends form top more known asked are means opened next ref peak z holds))

-- THE FORMS

-- of the first n forms none is past the bound
abbrev pub FormsHold : List Triple → ℕ → List Ends → List ℕ → List Form → ℕ → ℤ → Type 0
FormsHold nodes taken ends answers forms n b = (i : ℕ) → i < n → FormHolds nodes taken ends (ref_at answers i) (implied.form_at forms i) b

form_up : (nodes : List Triple) (taken answer : ℕ) (ends : List Ends) (form : Form) (a b : ℤ) → a ≤ℤ b → FormHolds nodes taken ends answer form a
    → FormHolds nodes taken ends answer form b
form_up nodes taken answer ends form a b low h v one two point within =
    let z : value form point ≤ℤ a = h v one two point within in omega (arith, ints)

pub forms_first : (nodes : List Triple) (taken : ℕ) (ends : List Ends) (answers : List ℕ) (forms : List Form) (t : List ℤ) (limit : Option ℤ)
    → IsRisen t (FormsHold nodes taken ends answers forms 0) limit limit
forms_first nodes taken ends answers forms t limit = risen_still t (FormsHold nodes taken ends answers forms 0) limit
    (λ b at i low. absurd (omega arith))

-- a form in a store that has grown
form_same : (s a : Diagrams) (taken answer : ℕ) (ends : List Ends) (form : Form) (b : ℤ) → Extends s a → IsRef s.nodes taken → IsRef s.nodes answer
    → AreEnds s.nodes (length ends) ends
    → (FormHolds a.nodes taken ends answer form b → FormHolds s.nodes taken ends answer form b)
    × (FormHolds s.nodes taken ends answer form b → FormHolds a.nodes taken ends answer form b)
form_same s a taken answer ends form b more known asked are = (
  λ h v one two point within. h v (more.kept taken known v ∙ one) (more.kept answer asked v ∙ two) point
      (subst (λ (box : List Interval). IsWithin box point) (sym (box_later s a (length ends) ends v more are)) within),
  λ h v one two point within. h v (sym (more.kept taken known v) ∙ one) (sym (more.kept answer asked v) ∙ two) point
      (subst (λ (box : List Interval). IsWithin box point) (box_later s a (length ends) ends v more are) within),
)

pub forms_more : (s a : Diagrams) (taken : ℕ) (ends : List Ends) (answers : List ℕ) (forms : List Form) (form : Form) (n : ℕ) (t : List ℤ)
    (old mid new : Option ℤ) → Extends s a → IsRef s.nodes taken → IsRef s.nodes (ref_at answers n) → AreEnds s.nodes (length ends) ends
    → implied.form_at forms n ≡ form
    → IsRisen t (FormsHold s.nodes taken ends answers forms n) old mid
    → IsRisen t (FormHolds a.nodes taken ends (ref_at answers n) form) mid new
    → IsRisen t (FormsHold s.nodes taken ends answers forms (n + 1)) old new
forms_more s a taken ends answers forms form n t old mid new more known asked are at one two =
    risen_as t (λ b. FormsHold s.nodes taken ends answers forms n b × FormHolds s.nodes taken ends (ref_at answers n) form b)
    (FormsHold s.nodes taken ends answers forms (n + 1)) old new
    (λ b h i low. ⊎_elim (λ less. h.0 i less)
    (λ ge. let e : n ≡ i = omega arith in
    subst (λ (j : ℕ). FormHolds s.nodes taken ends (ref_at answers j) (implied.form_at forms j) b) e
    (subst (λ (f : Form). FormHolds s.nodes taken ends (ref_at answers n) f b) (sym at) h.1))
    (cases_lt i n))
    (λ b h. (λ i low. h i (omega arith), subst (λ (f : Form). FormHolds s.nodes taken ends (ref_at answers n) f b) at (h n (omega arith))))
    (risen_both t (FormsHold s.nodes taken ends answers forms n) (FormHolds s.nodes taken ends (ref_at answers n) form) old mid new
    (λ a1 b1 low h i less. form_up s.nodes taken (ref_at answers i) ends (implied.form_at forms i) a1 b1 low (h i less)) one
    (risen_as t (FormHolds a.nodes taken ends (ref_at answers n) form) (FormHolds s.nodes taken ends (ref_at answers n) form) mid new
    (λ b. (form_same s a taken (ref_at answers n) ends form b more known asked are).0)
    (λ b. (form_same s a taken (ref_at answers n) ends form b more known asked are).1) two))

pub forms_all : (nodes : List Triple) (taken : ℕ) (ends : List Ends) (answers : List ℕ) (forms : List Form) (n : ℕ) (t : List ℤ) (old new : Option ℤ)
    → n ≡ length forms → IsRisen t (FormsHold nodes taken ends answers forms n) old new
    → IsRisen t (HoldsAfter nodes taken ends answers forms) old new
forms_all nodes taken ends answers forms n t old new all r =
    risen_as t (FormsHold nodes taken ends answers forms n) (HoldsAfter nodes taken ends answers forms) old new
    (λ b h v i low one two point within. h i (omega arith) v one two point within)
    (λ b h i low v one two point within. h v i (omega arith) one two point within)
    r
