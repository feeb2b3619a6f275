-- The system of valuations of a flat system, with integers too.
use Rattle.std.proofs.Common.{◌≡◌, inl, inr, ℕ, ◌+◌, ◌^◌, ◌<◌, ◌≤◌, pos, true, List, ◌++◌, length, map, refl, sym, subst, arith, Option, Some}
use Rattle.std.proofs.{lemmas.List.length-map, lemmas.List.Elements.All-from_get_or, lemmas.List.Elements.Contains-append_cases}
use Rattle.std.specs.{Int.RustNames.unsigned_abs, List.Contains}
use Rattle.rv_base.specs.Limits.{heaviest}
use Rattle.rv_tree.specs.{Tree.ProgramTree, Places.Identifier, Places.Sites}
use Rattle.rv_types.specs.Lists.{Side, Variable}
use Rattle.rv_rows.specs.{declared.linear.Row.Row, Arithmetic.constant_form, Arithmetic.test_row, Tight.IsTightened}
use Rattle.rv_agreement.specs.Valuations.{Valuation, Reading, IsSymbolic, form_of, width, item_comparisons, all_items, all_comparisons, tested, tested_form}
use Rattle.rv_agreement.specs.Valuations.{read, updated}
use Rattle.rv_agreement.specs.{Trees.Item, Trees.nth_item, Trees.System, Trees.memory_items, Trees.memory_kinds, Agreement.IsWell}
use Rattle.rv_agreement.proofs.Matching.{read_in}
use Rattle.rv_diagram.specs.Nodes.{Valuation as Numbered}
use Rattle.rv_proofs.specs.Systems as systems
use Rattle.rv_flat.specs.{declared.flat.Flat.Flat, Facts.is_light, Facts.flow_weights, FlatInstants.system_of, FlatOf.IsFlatOf, Systems.kept_of}
use Rattle.rv_flat.specs.{Systems.memory_item}
use Rattle.rv_flat.proofs.{FlowWeights.item_light, Inlining.items_kept}
use Rattle.rv_control.specs.{Named.variables_of, Named.by_names, Symbolic.symbolic, Control.control_of}
use Rattle.rv_control.proofs.Weighed.{side_bounded, light_weight, compared_light, forms_have, expression_bounded, updated_bounded}
use Rattle.rv_control.proofs.{Readings.is_symbolic, Alike.NoControlForms, Alike.IsLike, Alike.inside_of, Places.HasRow, Places.row_told, Points.test_of}
use Rattle.rv_control.proofs.{Bounded.IsBounded, Bounded.looser, Bounded.test_bounded, Bounded.tightened_bounded, System.is_system}
use Rattle.rv_types.proofs.Members.{of_flat_map}

module _ (controls : NoControlForms) (tight : (r t : Row) → IsTightened r t → IsTightened t t) (program : ProgramTree) (main : Identifier) (f : Flat)
    (flat : IsFlatOf program main f) where
  abbrev s : System
  s = system_of f

  abbrev names : List Variable
  names = variables_of f

  abbrev well : IsWell s
  well = flat.system.well

  abbrev mine : systems.System
  mine = control_of f

  abbrev ws : List ℕ
  ws = flow_weights s.flows

  memory_light : (m : ℕ) → m < length s.memories → is_light ws (nth_item (memory_items s) m).body ≡ true
  memory_light m lt =
      let same = items_kept f.memories f.memories in
      let many = length-map f.memories (kept_of f.memories) in
      let count = length-map f.memories (memory_item f.memories) in
      subst (λ xs. is_light ws (nth_item xs m).body ≡ true) (sym same)
      (item_light ws (map (memory_item f.memories) f.memories) m f.memories_light (omega (arith, lt, many, count)))

  -- each item is light
  light_item : (x : Item) → Contains (all_items s) x → is_light ws x.body ≡ true
  light_item x there = elim (Contains-append_cases s.flows (memory_items s ++ s.assertions) x there) [
    | inl u ↦ subst (λ (y : Item). is_light ws y.body ≡ true) (read_in s.flows x u) (item_light ws s.flows u.0 f.flows_light u.1)
    | inr rest ↦ elim (Contains-append_cases (memory_items s) s.assertions x rest) [
      | inl u ↦ subst (λ (y : Item). is_light ws y.body ≡ true) (read_in (memory_items s) x u)
          (memory_light u.0 (let lt = u.1 in let many = length-map s.memories (λ m. m.item) in omega (arith, lt, many)))
      | inr u ↦ subst (λ (y : Item). is_light ws y.body ≡ true) (read_in s.assertions x u) (item_light ws s.assertions u.0 f.assertions_light u.1)
    ]
  ]

  itself : (w : Valuation) → IsLike s w w
  itself w = record { ticks = λ k lt. refl; memories = λ m b lt less. refl; inputs = λ j b lt less. refl; tests = λ c side there is. refl }

  row_bounded : (w : Valuation) (row : List (Option Reading)) (p : Sites) (side : Side) (r : Row) → IsSymbolic s w row
      → HasRow s w row (all_comparisons s) p side r
      → systems.IsTestRow mine r
  row_bounded w row p side r is h =
      let c = h.comparison in
      let x = of_flat_map (item_comparisons s.flows) (all_items s) c h.there in
      let light = compared_light ws s.flows x.0.clock x.0.body (light_item x.0 x.1) c x.2 in
      let ins = inside_of controls s well w w (itself w) row is c h.there in
      let left = looser (width s) _ heaviest (form_of (width s) w.test (read s w row c.left)) light.0
      (expression_bounded s well w row is f.flows_fit c.clock ins.operand c.left ins.left) in
      let right = looser (width s) _ heaviest (form_of (width s) w.test (read s w row c.right)) light.1
      (expression_bounded s well w row is f.flows_fit c.clock ins.operand c.right ins.right) in
      let form = side_bounded (width s) w.test side (form_of (width s) w.test (read s w row c.left)) (form_of (width s) w.test (read s w row c.right))
      heaviest left right in
      let old = test_bounded (width s) (heaviest + heaviest) (w.test c.at side) (tested_form (width s) w.test (tested s w row c) side) form in
      let new = tightened_bounded (width s) (heaviest + heaviest) (heaviest + heaviest + 1)
      (test_row (w.test c.at side) (tested_form (width s) w.test (tested s w row c) side)) r h.is.1 old in
      record {
        wide = new.wide;
        tight = tight _ r h.is.1;
        coefficients = All-from_get_or (λ z. unsigned_abs z ≤ 2 ^ 41) r.coefficients (pos 0) (λ i lt. let e = new.each i in omega (arith, e));
        bound = let e = new.bound in omega (arith, e);
      }

  rows : (v : Numbered) (t : ℕ) (r : Row) → t < mine.tests → mine.row v t ≡ Some r → systems.IsTestRow mine r
  rows v t r lt e =
      let w = by_names names v in
      let at = test_of s w (symbolic s w) _ r e in
      row_bounded w (symbolic s w) at.0 at.1 r (is_symbolic s w well) (row_told s w (symbolic s w) (all_comparisons s) at.0 at.1 r at.2)

  updates : (v : Numbered) (k : ℕ) → k < mine.memories → systems.IsUpdate mine (mine.update v k)
  updates v k lt =
      let w = by_names names v in
      let row = symbolic s w in
      let many = length-map s.memories (λ m. m.kind) in
      let is : IsBounded (width s) heaviest (mine.update v k) = forms_have (IsBounded (width s) heaviest) (memory_kinds s)
      (λ m. form_of (width s) w.test (updated s w row m)) k (constant_form (width s) (pos 0))
      (λ m less. updated_bounded s well w row (is_symbolic s w well) f.flows_fit m (omega (arith, many, less))
      (light_weight ws (nth_item (memory_items s) m).body (memory_light m (omega (arith, many, less))))) lt in
      record {
        wide = is.wide;
        small = (
          All-from_get_or (λ z. unsigned_abs z ≤ 2 ^ 40) (mine.update v k).coefficients (pos 0) (λ i less. let e = is.each i in omega (arith, e)),
          let e = is.constant in omega (arith, e),
        );
      }

  pub whole_system : systems.IsSystem mine
  whole_system = is_system program main f flat rows updates
