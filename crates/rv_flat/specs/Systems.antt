-- The parts of a flat system by what an instant asks of them.
use Rattle.std.specs.Prelude.{ℕ, true, List, ◌∷◌, map, length, Option, Some, None as Nothing}
use Rattle.rv_base.specs.declared.value.Value.TheVariants.{Flag}
use Rattle.rv_tree.specs.Places.{Sites, index_of}
use Rattle.rv_types.specs.{declared.typed.Kind.Kind, Lists.MemoryAt}
use Rattle.rv_agreement.specs.Trees.{Item, Kept, System}
use Rattle.rv_flat.specs.RawTree.{RawTree, Node, Constant, Flow, If, raw_tree}
use Rattle.rv_flat.specs.{declared.parts.Bit.Bit, declared.parts.FlatExpr.FlatExpr, declared.parts.FlatFlow.FlatFlow, declared.parts.FlatInput.FlatInput}
use Rattle.rv_flat.specs.{declared.parts.FlatMemory.FlatMemory, Inlined.inlined, Inlined.table_of, Inlined.tree_among, Lists.tick_places}

-- the places of some flows, and of some memories
abbrev pub places_of : List FlatFlow → List Sites
places_of flows = map (λ x. x.place.sites) flows

abbrev pub memory_places_of : List FlatMemory → List Sites
memory_places_of memories = map (λ m. m.place.sites) memories

-- a memory by its place and type
abbrev pub memory_of : FlatMemory → MemoryAt
memory_of m = record { place = m.place.sites; kind = m.kind }

-- A flow and a memory, among these memories.
abbrev pub flow_item : List FlatMemory → FlatFlow → Item
flow_item memories f = record { clock = f.clock; body = tree_among memories f.body }

abbrev pub memory_item : List FlatMemory → FlatMemory → Item
memory_item memories m = record { clock = m.clock; body = tree_among memories m.body }

-- An assertion: a choice of its body where its clock is there, and `true` elsewhere. The item is on that clock. What is no such
-- choice is taken whole, on main's base clock.
abbrev pub asserted_on : RawTree → RawTree → RawTree → RawTree → Option ℕ × RawTree
asserted_on whole (Node at (Constant (Flag true))) body (Node other (Constant (Flag true))) = (Nothing, body)
asserted_on whole (Node at (Flow c)) body (Node other (Constant (Flag true))) = (Some c, body)
asserted_on whole there body absent = (Nothing, whole)

abbrev pub asserted : RawTree → Option ℕ × RawTree
asserted (Node at (If there body absent)) = asserted_on (Node at (If there body absent)) there body absent
asserted whole = (Nothing, whole)

abbrev pub assertion_item : List FlatMemory → FlatExpr → Item
assertion_item memories e = record { clock = (asserted (raw_tree e)).0; body = inlined (table_of memories) (asserted (raw_tree e)).1 }

-- the types of flows, memories and inputs
abbrev pub flow_kinds_of : List FlatFlow → List Kind
flow_kinds_of flows = map (λ g. g.kind) flows

abbrev pub kept_of : List FlatMemory → FlatMemory → Kept
kept_of memories m = record { place = m.place.sites; kind = m.kind; item = memory_item memories m }

-- the numbers of the flows of the ticks, in order; the main tick has none
abbrev pub tick_clocks_of : List FlatFlow → List Bit → List (Option ℕ)
tick_clocks_of flows variables = Nothing ∷ map (λ p. Some (index_of (places_of flows) p)) (tick_places variables)

-- the places of the flows of the ticks, none for the main one
abbrev pub tick_flows_of : List Bit → List (Option Sites)
tick_flows_of variables = Nothing ∷ map (λ p. Some p) (tick_places variables)

-- The system of some parts.
abbrev pub system_from : List FlatFlow → List FlatMemory → List FlatInput → List FlatExpr → List Bit → List (List (List ℕ)) → ℕ → System
system_from flows memories inputs assertions variables labels observer = record {
  flows = map (flow_item memories) flows;
  kinds = flow_kinds_of flows;
  memories = map (kept_of memories) memories;
  inputs = map (λ i. i.kind) inputs;
  assertions = map (assertion_item memories) assertions;
  ticks = tick_flows_of variables;
  tick_clocks = tick_clocks_of flows variables;
  labels = map (λ ls. length ls) labels;
  observer = observer;
}
