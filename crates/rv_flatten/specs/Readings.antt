-- How a flat system is read from its program: flows, memories and ticks by their numbers.
use Rattle.std.specs.Prelude.{◌≡◌, ℕ, ◌+◌, ◌<◌, ℤ, pos, negsuc, Bool, true, false, cond, unwrap_or, List, [], ◌∷◌, ◌++◌, map, length, Option, Some, slice_get}
use Rattle.std.specs.Prelude.{slice_index_or, None as Nothing}
use Rattle.std.specs.List.{Contains}
use Rattle.rv_base.specs.declared.value.Value.TheVariants.{Flag}
use Rattle.rv_base.specs.declared.value.Value.TheVariants as value
use Rattle.rv_tree.specs.Places.{Identifier, Sites, is_flow, index_of, memory_place, flows as flows_of}
use Rattle.rv_tree.specs.{declared.tree.Op.Op, Tree.Tree, Tree.Form, Tree.Trees, Tree.AssertionTree, Tree.ProgramTree, Delays.Delay, Delays.node_delays}
use Rattle.rv_tree.specs.declared.tree.Op.TheVariants as op
use Rattle.rv_tree.specs.Tree as tree
use Rattle.rv_types.specs.Instances.{Body, Output, Instance, place, absolute, clock_in, clock_of_arguments, output_place, node_of, IsInstance}
use Rattle.rv_types.specs.Needs.{Giver, Given, Of, Gives, IsSequence}
use Rattle.rv_types.specs.{declared.typed.Clock.TheVariants.Base, Kinds.decl_kinds, Kinds.flow_kind, Names.labels_of, Names.texts, Types.is_constant}
use Rattle.rv_types.specs.{Scopes.node_scope, Scopes.constant_value, Lists.IsAny, Lists.AreMemories, Lists.AreTicks, Lists.delay_place}
use Rattle.rv_flat.specs.RawTree.{RawTree, Node, RawForm, RawTrees, Constant, Flow, Memory, Ticked, Input, Not, Binary, Scale, If, AtMostOne, When, Current}
use Rattle.rv_flat.specs.RawTree.{None, More, raw_tree}
use Rattle.rv_flat.specs.{declared.parts.Bit.Bit, declared.parts.FlatExpr.FlatExpr, declared.parts.FlatFlow.FlatFlow, declared.parts.FlatInput.FlatInput}
use Rattle.rv_flat.specs.{declared.parts.FlatMemory.FlatMemory, Lists.tick_places, Systems.places_of, Systems.memory_places_of, Systems.memory_of}
use Rattle.rv_agreement.specs.{Programs.coefficient, Programs.operator_place, Translation.Numbers, Translation.clock_number, Translation.tick_number}

-- the places of the flows, of the memories, and of the flows of the ticks but the main one, by their numbers
abbrev pub numbers_of : List FlatFlow → List FlatMemory → List Bit → Numbers
numbers_of flows memories variables = record { flows = places_of flows; memories = memory_places_of memories; ticks = tick_places variables }

-- a part without a place
abbrev pub unplaced : RawForm → RawTree
unplaced form = Node [] form

-- whether a clock is there, by the number of its flow: main's base clock always is
abbrev pub presence : Option ℕ → RawForm
presence Nothing = Constant (Flag true)
presence (Some k) = Flow k

-- a product of which the left operand is constant, or else the right one: the constant one counts as its value
abbrev pub product : (left : Bool) → ℤ → ℤ → RawTree → RawTree → RawForm
product left y z f g = cond left (Scale y g) (Scale z f)

-- An operator between two operands, where it is this choice by a tick, or this product.
abbrev pub operator : Op → (choice times : RawForm) → RawTree → RawTree → RawForm
operator op.Arrow choice times f g = choice
operator op.Times choice times f g = times
operator o choice times f g = Binary o f g

-- An expression of an instance. `current E` names its memory, which takes E, and `E -> F` is F where its clock has ticked and E
-- elsewhere. Only a comparison of integers has a place.
module _ (program : ProgramTree) (numbers : Numbers) (i : Instance) where
  -- the flow at a place
  abbrev pub flow_at : Sites → RawForm
  flow_at q = Flow (index_of numbers.flows q)

  -- the number of the memory of a `pre` or `current`
  abbrev pub kept_number : Option ℕ → Tree → ℕ
  kept_number site e = index_of numbers.memories (memory_place i.path i.node site e)

  -- a name is a flow, or the value of a constant or label
  abbrev pub named : Identifier → RawForm
  named x = cond (is_flow i.node x) (flow_at (place i x)) (Constant (constant_value program x))

  abbrev mutual
    pub raw_of : Tree → RawTree
    raw_of (tree.Node at site form) = raw_form site form

    pub raw_form : Option ℕ → Form → RawTree
    raw_form site tree.True = unplaced (Constant (Flag true))
    raw_form site tree.False = unplaced (Constant (Flag false))
    raw_form site (tree.Number n) = unplaced (Constant (value.Whole (pos n)))
    raw_form site (tree.Named x) = unplaced (named x)
    raw_form site (tree.Not e) = unplaced (Not (raw_of e))
    raw_form site (tree.Minus e) = unplaced (Scale (negsuc 0) (raw_of e))
    raw_form site (tree.Pre e) = unplaced (Memory (kept_number site e))
    raw_form site (tree.Current e) = unplaced (Current (kept_number site e))
    raw_form site (tree.When e c) = unplaced (When (index_of numbers.flows (place i c.text)) (raw_of e))
    raw_form site (tree.Binary o a b) = Node (operator_place program i site o a) (operator o
        (If (unplaced (Ticked (tick_number numbers (clock_in i Base (tree.Node 0 site (tree.Binary o a b)))))) (raw_of b) (raw_of a))
        (product (is_constant (node_scope program i.node) a) (coefficient program a) (coefficient program b) (raw_of a) (raw_of b))
        (raw_of a) (raw_of b))
    raw_form site (tree.If a b c) = unplaced (If (raw_of a) (raw_of b) (raw_of c))
    raw_form site (tree.AtMostOne es) = unplaced (AtMostOne (raws_of es))
    raw_form site (tree.Call f args) = unplaced (flow_at (output_place program i (unwrap_or site 0) f 0))

    pub raws_of : Trees → RawTrees
    raws_of tree.None = None
    raws_of (tree.More e es) = More (raw_of e) (raws_of es)

-- A flow or memory by the number of its clock's flow, and its expression.
pub record RawItem : Type 0 where
  pub clock : Option ℕ
  pub body : RawTree

abbrev pub raw_flow : FlatFlow → RawItem
raw_flow f = record { clock = f.clock; body = raw_tree f.body }

abbrev pub raw_memory : FlatMemory → RawItem
raw_memory m = record { clock = m.clock; body = raw_tree m.body }

abbrev pub no_raw : RawItem
no_raw = record { clock = Nothing; body = unplaced (Constant (Flag false)) }

-- What gives a flow: an input of main, a right side or argument on its clock, or an output of a call with several.
abbrev pub raw_giver : ProgramTree → Numbers → Giver → RawItem
raw_giver program numbers (Given j) = record { clock = Nothing; body = unplaced (Input j) }
raw_giver program numbers (Of i k (Body e)) = record { clock = clock_number numbers (clock_in i k e); body = raw_of program numbers i e }
raw_giver program numbers (Of i k (Output c j)) = record {
  clock = clock_number numbers (absolute i (clock_of_arguments i c.args));
  body = unplaced (flow_at program numbers i (output_place program i c.site c.name j));
}

-- A memory takes the operand of its `pre` or `current` where that is there.
abbrev pub raw_delay : ProgramTree → Numbers → Instance → Delay → RawItem
raw_delay program numbers i d = record { clock = clock_number numbers (clock_in i Base d.operand); body = raw_of program numbers i d.operand }

-- An assertion: true where its clock is absent. It is a choice also where the clock is main's base clock, so that what is
-- assumed keeps its own place.
abbrev pub assertion_of : ProgramTree → Numbers → Instance → AssertionTree → RawTree
assertion_of program numbers i a = Node (i.path ++ a.site ∷ []) (If
    (unplaced (presence (clock_number numbers (clock_in i Base a.body))))
    (raw_of program numbers i a.body)
    (unplaced (Constant (Flag true))))

abbrev pub no_assumption : RawTree
no_assumption = unplaced (Constant (Flag true))

-- The flows, memories, inputs, variables and assertions of a flat system are read from its program.
pub record IsRead (program : ProgramTree) (main : Identifier) (flows : List FlatFlow) (memories : List FlatMemory) (inputs : List FlatInput)
    (variables : List Bit) (assertions : List FlatExpr) : Type 0 where
  pub sequence : IsSequence program main (places_of flows)
  pub list : AreMemories program main IsAny (map memory_of memories)
  pub ticks : AreTicks program main (tick_places variables)
  pub as_many : length inputs ≡ length (node_of program main).inputs
  pub flow : (k : ℕ) → k < length flows → (g : Giver) × Gives program main (slice_index_or (places_of flows) k []) g
      × (slice_index_or (map raw_flow flows) k no_raw ≡ raw_giver program (numbers_of flows memories variables) g)
  pub memory : (m : ℕ) → m < length memories → (i : Instance) × (d : Delay) × IsInstance program main i × Contains (node_delays i.node) d
      × (slice_index_or (memory_places_of memories) m [] ≡ delay_place i d)
      × (slice_index_or (map raw_memory memories) m no_raw ≡ raw_delay program (numbers_of flows memories variables) i d)
  pub asserts : (i : Instance) (a : AssertionTree) → IsInstance program main i → Contains i.node.assertions a
      → Contains (map raw_tree assertions) (assertion_of program (numbers_of flows memories variables) i a)
  pub asserted : (k : ℕ) → k < length assertions → (i : Instance) × (a : AssertionTree) × IsInstance program main i × Contains i.node.assertions a
      × (slice_index_or (map raw_tree assertions) k no_assumption ≡ assertion_of program (numbers_of flows memories variables) i a)

-- Flows and inputs have the types of their program, and enumerations as many labels.
pub record AreKinds (program : ProgramTree) (main : Identifier) (flows : List FlatFlow) (inputs : List FlatInput) (labels : List (List (List ℕ))) : Type 0 where
  pub flow : (i : Instance) (x : Identifier) (k : ℕ) → IsInstance program main i → Contains (flows_of i.node) x → k < length flows
      → slice_index_or (places_of flows) k [] ≡ place i x
      → slice_get (map (λ g. g.kind) flows) k ≡ flow_kind program i.node x
  pub input : map (λ i. i.kind) inputs ≡ decl_kinds program (node_of program main).inputs
  pub label : labels ≡ map (λ d. texts (labels_of d)) program.types
