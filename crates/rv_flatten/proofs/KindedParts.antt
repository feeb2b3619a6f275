-- A system that is put together from parts has the types, the items and the places of its parts.
use Rattle.std.proofs.Common.{◌≡◌, ℕ, List, map, length, sym, ◌∙◌, ap, arith}
use Rattle.std.proofs.{lemmas.List.length-map, lemmas.Simd.map-map}
use Rattle.rv_tree.specs.{Tree.ProgramTree, Places.Identifier}
use Rattle.rv_agreement.specs.Trees.{Kept, System, memory_items, memory_places}
use Rattle.rv_flat.specs.Systems.{flow_item, memory_item, kept_of, memory_places_of, system_from}
use Rattle.rv_flat.specs.{declared.parts.Bit.Bit, declared.parts.FlatExpr.FlatExpr, declared.parts.FlatFlow.FlatFlow, declared.parts.FlatInput.FlatInput}
use Rattle.rv_flat.specs.{declared.parts.FlatMemory.FlatMemory}
use Rattle.rv_flatten.specs.{Kinded.IsKinded, Readings.numbers_of, Readings.AreKinds}

module _ (flows : List FlatFlow) (memories : List FlatMemory) (inputs : List FlatInput) (assertions : List FlatExpr) (variables : List Bit)
    (labels : List (List (List ℕ))) (observer : ℕ) where
  abbrev together : System
  together = system_from flows memories inputs assertions variables labels observer

  -- Flows and inputs have the types of the program.
  pub are_kinded : (program : ProgramTree) (main : Identifier) → AreKinds program main flows inputs labels
      → IsKinded program main (numbers_of flows memories variables) together
  are_kinded program main types =
      let kinds = length-map flows (λ (g : FlatFlow). g.kind) in
      let items = length-map flows (flow_item memories) in
      record {
        many = kinds ∙ sym items;
        flow = λ i x k of w lt at. types.flow i x k of w (omega (arith, lt, items)) at;
        input = types.input;
        label = ap (map (λ ls. length ls)) types.label;
      }

  -- the items of the memories, and their places
  pub items_are : memory_items together ≡ map (memory_item memories) memories
  items_are = map-map (λ (m : Kept). m.item) (kept_of memories) memories

  pub places_are : memory_places together ≡ memory_places_of memories
  places_are = map-map (λ (m : Kept). m.place) (kept_of memories) memories
