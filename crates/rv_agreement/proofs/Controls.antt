-- An expression of a type other than int never reads as a form, whether it is present or not.
use Rattle.std.proofs.Common.{◌≡◌, ◌<◌, ◌≤◌, ℕ, Bool, true, false, ◌&&◌, cond, List, [], length, refl, sym, ◌∙◌, ap, arith, Option, Some, None as Nothing}
use Rattle.std.proofs.lemmas.Bool.{and_parts}
use Rattle.std.specs.{Prelude.slice_index_or, List.Contains}
use Rattle.rv_base.specs.declared.value.Value.{Value}
use Rattle.rv_base.specs.declared.value.Value.TheVariants as value
use Rattle.rv_tree.specs.{declared.tree.Op.Op, Places.Sites}
use Rattle.rv_tree.specs.declared.tree.Op.TheVariants as op
use Rattle.rv_types.specs.{declared.typed.Kind.Kind, Lists.Side, Lists.sides_of, Variables.is_integer}
use Rattle.rv_types.specs.declared.typed.Kind.TheVariants as kind
use Rattle.rv_rows.specs.declared.linear.Form.{Form}
use Rattle.rv_agreement.specs.Trees.{FlatTree, Node, TreeForm, Constant, Flow, Memory, Input, Binary, Scale, If, When, Current, nth_item, System, memory_kinds}
use Rattle.rv_agreement.specs.Trees.{memory_places, kind_at}
use Rattle.rv_agreement.specs.Evaluation.{nth, is_on, held, is_there, form_value}
use Rattle.rv_agreement.specs.Valuations.{Valuation, Reading, is_linear, constant_reading, operated, is_of_integers, spelled, width, reads_at, found_at}
use Rattle.rv_agreement.specs.Valuations.{holds_true, IsSymbolic, read}
use Rattle.rv_agreement.specs.Agreement.{HasKind, IsRule, Fits, FormFits, IsWell}
use Rattle.rv_meaning.proofs.Below.{each_below}
use Rattle.rv_types.proofs.ChainLaws.{no_flag}

-- an integer's type is not one of control values
no_integer : {A : Type 0} (j : Kind) → j ≡ kind.Int → is_integer j ≡ false → A
no_integer j is not = no_flag (sym not ∙ ap is_integer is)

constant_control : (labels : List ℕ) (n : ℕ) (test : Sites → Side → Bool) (j : Kind) (c : Value) → HasKind labels j c → is_integer j ≡ false
    → is_linear (constant_reading n test c) ≡ false
constant_control labels n test j (value.Flag b) has not = refl
constant_control labels n test j (value.Label l) has not = refl
constant_control labels n test kind.Bool (value.Whole z) has not = absurd has
constant_control labels n test kind.Int (value.Whole z) has not = no_flag (sym not)
constant_control labels n test (kind.Labels i) (value.Whole z) has not = absurd has

spelled_control : (labels : List ℕ) (j : Kind) (bits : ℕ → Bool) (f : Form) → is_integer j ≡ false → is_linear (spelled labels j bits f) ≡ false
spelled_control labels kind.Int bits f not = no_flag (sym not)
spelled_control labels _ bits f not = refl

chosen_control : (b : Bool) (p q : Reading) → is_linear p ≡ false → is_linear q ≡ false → is_linear (cond b p q) ≡ false
chosen_control true p q first second = first
chosen_control false p q first second = second

operated_control : (n : ℕ) (test : Sites → Side → Bool) (at : Sites) (o : Op) (i j : Kind) (a b : Reading) → IsRule o i j → is_integer j ≡ false
    → is_linear (operated n test at o a b) ≡ false
operated_control n test at op.Arrow i j a b rule not = absurd rule
operated_control n test at op.Plus i j a b rule not = no_integer j rule.1 not
operated_control n test at op.Minus i j a b rule not = no_integer j rule.1 not
operated_control n test at op.Times i j a b rule not = absurd rule
operated_control n test at op.Slash i j a b rule not = absurd rule
operated_control n test at op.Div i j a b rule not = absurd rule
operated_control n test at op.Mod i j a b rule not = absurd rule
operated_control n test at _ i j a b rule not = refl

-- Where operands of control types never read as forms, a comparison that reads them as forms is one of integers.
either_integer : (b : Bool) (i : Kind) (a : Reading) (c : Bool) → is_integer i ≡ b → (is_integer i ≡ false → is_linear a ≡ false) → (is_linear a && c) ≡ true
    → is_integer i ≡ true
either_integer true i a c is control integral = is
either_integer false i a c is control integral = no_flag (sym (control is) ∙ (and_parts (is_linear a) c integral).0)

pub of_integers : (o : Op) (i j : Kind) (a b : Reading) (side : Side) → IsRule o i j → (is_integer i ≡ false → is_linear a ≡ false)
    → is_of_integers o a b ≡ true → Contains (sides_of o) side → is_integer i ≡ true
of_integers op.Arrow i j a b side rule control integral w = absurd rule
of_integers op.Equal i j a b side rule control integral w = either_integer (is_integer i) i a (is_linear b) refl control integral
of_integers op.Differs i j a b side rule control integral w = either_integer (is_integer i) i a (is_linear b) refl control integral
of_integers op.Less i j a b side rule control integral w = ap is_integer rule.0
of_integers op.AtMost i j a b side rule control integral w = ap is_integer rule.0
of_integers op.Greater i j a b side rule control integral w = ap is_integer rule.0
of_integers op.AtLeast i j a b side rule control integral w = ap is_integer rule.0
of_integers op.Times i j a b side rule control integral w = absurd rule
of_integers op.Slash i j a b side rule control integral w = absurd rule
of_integers op.Div i j a b side rule control integral w = absurd rule
of_integers op.Mod i j a b side rule control integral w = absurd rule
of_integers _ i j a b side rule control integral w = absurd (omega (arith, w.1))

module _ (s : System) (v : Valuation) (row : List (Option Reading)) where
  -- what the first flows have, as many as are said, is no form where they are of control types
  abbrev AreControls : ℕ → Type 0
  AreControls n = (k : ℕ) → k < n → is_integer (kind_at s.kinds k) ≡ false → is_linear (held Reading (reads_at s v) (nth Reading (reads_at s v) row k)) ≡ false

  memory_control : (m : ℕ) (j : Kind) → kind_at (memory_kinds s) m ≡ j → is_integer j ≡ false → is_linear ((found_at s v).kept m) ≡ false
  memory_control m j is not = spelled_control s.labels (kind_at (memory_kinds s) m) (v.kept (slice_index_or (memory_places s) m [])) _ (ap is_integer is ∙ not)

  module _ (n : ℕ) (before : AreControls n) where
    mutual
      control : (k : Option ℕ) (j : Kind) (e : FlatTree) → Fits s n k j e → is_integer j ≡ false → is_linear (read s v row e) ≡ false
      control k j (Node at form) fit not = control_form k j at form fit not

      control_form : (k : Option ℕ) (j : Kind) (at : Sites) (form : TreeForm) → FormFits s n k j at form → is_integer j ≡ false
          → is_linear (form_value Reading (reads_at s v) (found_at s v) row at form) ≡ false
      control_form k j at (Constant c) fit not = constant_control s.labels (width s) v.test j c fit not
      control_form k j at (Flow c) fit not = before c fit.0 (ap is_integer fit.1 ∙ not)
      control_form k j at (Memory m) fit not = memory_control m j fit.1 not
      control_form k j at (Input i) fit not = spelled_control s.labels (kind_at s.inputs i) (v.input i) _ (ap is_integer fit.1 ∙ not)
      control_form k j at (Binary o a b) fit not = operated_control (width s) v.test at o fit.0 j (read s v row a) (read s v row b) fit.1 not
      control_form k j at (Scale z e) fit not = no_integer j fit.0 not
      control_form k j at (If c a b) fit not = chosen_control (holds_true (read s v row c)) (read s v row a) (read s v row b) (control k j a fit.1 not)
          (control k j b fit.2 not)
      control_form k j at (When c e) fit not = control (nth_item s.flows c).clock j e fit.2 not
      control_form k j at (Current m i e) fit not =
          chosen_control (is_there Reading (reads_at s v) row i) (read s v row e) ((found_at s v).kept m) (control i j e fit.4 not)
          (memory_control m j fit.1 not)
      control_form k j at _ fit not = refl

  held_control : (b : Bool) (x : Reading) → is_linear x ≡ false → is_linear (held Reading (reads_at s v) (cond b (Some x) Nothing)) ≡ false
  held_control true x is = is
  held_control false x is = refl

  module _ (well : IsWell s) (instant : IsSymbolic s v row) where
    -- the clock of a clock that is there is there
    pub clock_there : (c : ℕ) → c < length s.flows → is_there Reading (reads_at s v) row (Some c) ≡ true
        → is_there Reading (reads_at s v) row (nth_item s.flows c).clock ≡ true
    clock_there c lt on = there (is_there Reading (reads_at s v) row (nth_item s.flows c).clock)
        (ap (is_on Reading (reads_at s v)) (sym (instant.holds c lt)) ∙ on)
      where
        there : (b : Bool) → is_on Reading (reads_at s v) (cond b (Some (read s v row (nth_item s.flows c).body)) Nothing) ≡ true → b ≡ true
        there true on = refl
        there false on = no_flag on

    controls : AreControls (length s.flows)
    controls = each_below
        (λ k. is_integer (kind_at s.kinds k) ≡ false → is_linear (held Reading (reads_at s v) (nth Reading (reads_at s v) row k)) ≡ false) (length s.flows)
        (λ n lt before not.
        let body = (nth_item s.flows n).body in
        let clock = (nth_item s.flows n).clock in
        ap (λ o. is_linear (held Reading (reads_at s v) o)) (instant.holds n lt)
        ∙ held_control (is_there Reading (reads_at s v) row clock) (read s v row body)
        (control n before clock (kind_at s.kinds n) body (well.flows n lt).1 not))

    -- An expression over the first flows of a control type never reads as a form.
    pub never_linear : (n : ℕ) → n ≤ length s.flows → (k : Option ℕ) (j : Kind) (e : FlatTree) → Fits s n k j e → is_integer j ≡ false
        → is_linear (read s v row e) ≡ false
    never_linear n le = control n (λ k lt. controls k (omega arith))
