-- How a flat system that tells where its parts are present is read from its program.
use Rattle.std.specs.Prelude.{◌≡◌, ℕ, ◌+◌, ◌<◌, pos, negsuc, true, false, cond, unwrap_or, List, [], ◌∷◌, map, length, Option, Some, slice_index_or}
use Rattle.std.specs.Prelude.{None as Nothing}
use Rattle.std.specs.{List.Contains, Option.option_map}
use Rattle.rv_base.specs.declared.value.Value.TheVariants.{Flag, Whole}
use Rattle.rv_tree.specs.declared.tree.Op.TheVariants as op
use Rattle.rv_tree.specs.Tree as tree
use Rattle.rv_tree.specs.Tree.{Tree, Form, Trees, AssertionTree, ProgramTree}
use Rattle.rv_tree.specs.{Places.Identifier, Places.Sites, Places.is_flow, Places.index_of, Delays.Delay, Delays.node_delays}
use Rattle.rv_types.specs.Instances.{Body, Output, Instance, place, absolute, clock_of, clock_in, clock_of_arguments, output_place, IsInstance}
use Rattle.rv_types.specs.{declared.typed.Clock.Clock, declared.typed.Clock.TheVariants.Base, Types.is_constant, Scopes.node_scope, Scopes.constant_value}
use Rattle.rv_types.specs.{Needs.Giver, Needs.Given, Needs.Of, Needs.Gives, Needs.IsSequence, Lists.IsAny, Lists.AreMemories, Lists.AreTicks, Lists.delay_place}
use Rattle.rv_meaning.specs.Meaning.{kept_place}
use Rattle.rv_agreement.specs.Trees.{FlatTree, TreeForm, FlatTrees, Item, System, nth_item, memory_items, memory_places}
use Rattle.rv_agreement.specs.{Programs.operator_place, Programs.coefficient, Programs.operation, Programs.Compared, Valuations.Comparison}
use Rattle.rv_agreement.specs.Trees as flat

-- the places of the flows, of the memories, and of the flows of the ticks but the main one, by their numbers
pub record Numbers : Type 0 where
  pub flows : List Sites
  pub memories : List Sites
  pub ticks : List Sites

abbrev pub clock_number : Numbers → Option Sites → Option ℕ
clock_number numbers k = option_map (index_of numbers.flows) k

abbrev pub tick_number : Numbers → Option Sites → ℕ
tick_number numbers Nothing = 0
tick_number numbers (Some q) = index_of numbers.ticks q + 1

-- a part without a place
abbrev pub unplaced : TreeForm → FlatTree
unplaced form = flat.Node [] form

-- An expression of an instance. Only a comparison of integers has a place.
module _ (program : ProgramTree) (numbers : Numbers) (i : Instance) where
  abbrev mutual
    pub flat_of : Tree → FlatTree
    flat_of (tree.Node at site form) = flat_form site form

    pub flat_form : Option ℕ → Form → FlatTree
    flat_form site tree.True = unplaced (flat.Constant (Flag true))
    flat_form site tree.False = unplaced (flat.Constant (Flag false))
    flat_form site (tree.Number n) = unplaced (flat.Constant (Whole (pos n)))
    flat_form site (tree.Named x) = unplaced (cond (is_flow i.node x) (flat.Flow (index_of numbers.flows (place i x)))
        (flat.Constant (constant_value program x)))
    flat_form site (tree.Not e) = unplaced (flat.Not (flat_of e))
    flat_form site (tree.Minus e) = unplaced (flat.Scale (negsuc 0) (flat_of e))
    flat_form site (tree.Pre e) = unplaced (flat.Memory (index_of numbers.memories (kept_place i site e)))
    flat_form site (tree.Current e) = unplaced (flat.Current (index_of numbers.memories (kept_place i site e)) (clock_number numbers (clock_in i Base e))
        (flat_of e))
    flat_form site (tree.When e c) = unplaced (flat.When (index_of numbers.flows (place i c.text)) (flat_of e))
    flat_form site (tree.Binary o a b) = flat.Node (operator_place program i site o a) (operation o
        (flat.If (unplaced (flat.Ticked (tick_number numbers (clock_in i Base (tree.Node 0 site (tree.Binary o a b)))))) (flat_of b) (flat_of a))
        (cond (is_constant (node_scope program i.node) a) (flat.Scale (coefficient program a) (flat_of b)) (flat.Scale (coefficient program b) (flat_of a)))
        (flat.Binary o (flat_of a) (flat_of b)))
    flat_form site (tree.If a b c) = unplaced (flat.If (flat_of a) (flat_of b) (flat_of c))
    flat_form site (tree.AtMostOne es) = unplaced (flat.AtMostOne (flats_of es))
    flat_form site (tree.Call f args) = unplaced (flat.Flow (index_of numbers.flows (output_place program i (unwrap_or site 0) f 0)))

    pub flats_of : Trees → FlatTrees
    flats_of tree.None = flat.None
    flats_of (tree.More e es) = flat.More (flat_of e) (flats_of es)

-- What is asked of the memories, ticks and clocks that an expression names.
module _ (i : Instance) (IsKept : Sites → Type 0) (IsTick : Option Sites → Type 0) (IsClock : Identifier → Type 0) where
  abbrev mutual
    pub Names : Tree → Type 0
    Names (tree.Node at site form) = FormNames site form

    pub FormNames : Option ℕ → Form → Type 0
    FormNames site tree.True = Unit {0}
    FormNames site tree.False = Unit {0}
    FormNames site (tree.Number n) = Unit {0}
    FormNames site (tree.Named x) = Unit {0}
    FormNames site (tree.Not e) = Names e
    FormNames site (tree.Minus e) = Names e
    FormNames site (tree.Pre e) = IsKept (kept_place i site e)
    FormNames site (tree.Current e) = IsKept (kept_place i site e) × Names e
    FormNames site (tree.When e c) = IsClock c.text × Names e
    FormNames site (tree.Binary o a b) = (o ≡ op.Arrow → IsTick (clock_in i Base (tree.Node 0 site (tree.Binary o a b)))) × Names a × Names b
    FormNames site (tree.If a b c) = Names a × Names b × Names c
    FormNames site (tree.AtMostOne es) = AllNames es
    FormNames site (tree.Call f args) = Unit {0}

    pub AllNames : Trees → Type 0
    AllNames tree.None = Unit {0}
    AllNames (tree.More e es) = Names e × AllNames es

-- The same of every expression of a program.
pub record AreNamed (program : ProgramTree) (main : Identifier) (IsKept : Sites → Type 0) (IsTick : Option Sites → Type 0)
    (IsClock : Instance → Identifier → Type 0) : Type 0 where
  pub flows : (q : Sites) (i : Instance) (k : Clock) (e : Tree) → Gives program main q (Of i k (Body e)) → Names i IsKept IsTick (IsClock i) e
  pub memories : (i : Instance) (d : Delay) → IsInstance program main i → Contains (node_delays i.node) d → Names i IsKept IsTick (IsClock i) d.operand
  pub assertions : (i : Instance) (a : AssertionTree) → IsInstance program main i → Contains i.node.assertions a → Names i IsKept IsTick (IsClock i) a.body

abbrev pub giver_item : ProgramTree → Numbers → Giver → Item
giver_item program numbers (Given j) = record { clock = Nothing; body = unplaced (flat.Input j) }
giver_item program numbers (Of i k (Body e)) = record { clock = clock_number numbers (clock_in i k e); body = flat_of program numbers i e }
giver_item program numbers (Of i k (Output c j)) = record {
  clock = clock_number numbers (absolute i (clock_of_arguments i c.args));
  body = unplaced (flat.Flow (index_of numbers.flows (output_place program i c.site c.name j)));
}

abbrev pub delay_item : ProgramTree → Numbers → Instance → Delay → Item
delay_item program numbers i d = record { clock = clock_number numbers (clock_in i Base d.operand); body = flat_of program numbers i d.operand }

-- an assertion, on its clock
abbrev pub assertion_item : ProgramTree → Numbers → Instance → AssertionTree → Item
assertion_item program numbers i a = record { clock = clock_number numbers (clock_in i Base a.body); body = flat_of program numbers i a.body }

-- A flat system is read from its program.
pub record IsTranslated (program : ProgramTree) (main : Identifier) (numbers : Numbers) (s : System) : Type 0 where
  pub sequence : IsSequence program main numbers.flows
  pub ticks : AreTicks program main numbers.ticks
  pub memories : AreMemories program main IsAny (map (λ m. record { place = m.place; kind = m.kind }) s.memories)
  pub memory_numbers : numbers.memories ≡ memory_places s
  pub tick_places : s.ticks ≡ Nothing ∷ map (λ q. Some q) numbers.ticks
  pub tick_clocks : s.tick_clocks ≡ Nothing ∷ map (λ q. Some (index_of numbers.flows q)) numbers.ticks
  pub many : length s.flows ≡ length numbers.flows
  pub flow : (k : ℕ) → k < length s.flows → (g : Giver) × Gives program main (slice_index_or numbers.flows k []) g
      × (nth_item s.flows k ≡ giver_item program numbers g)
  -- every reader of a memory, so that all of a memory's readers take the same
  pub memory : (i : Instance) (d : Delay) → IsInstance program main i → Contains (node_delays i.node) d
      → nth_item (memory_items s) (index_of numbers.memories (delay_place i d)) ≡ delay_item program numbers i d
  pub memory_there : (i : Instance) (d : Delay) → IsInstance program main i → Contains (node_delays i.node) d
      → index_of numbers.memories (delay_place i d) < length s.memories
  pub memory_only : (m : ℕ) → m < length s.memories → (i : Instance) × (d : Delay) × IsInstance program main i × Contains (node_delays i.node) d
      × (nth_item (memory_items s) m ≡ delay_item program numbers i d)
  pub asserts : (i : Instance) (a : AssertionTree) → IsInstance program main i → Contains i.node.assertions a
      → Contains s.assertions (assertion_item program numbers i a)
  pub asserted : (k : ℕ) → k < length s.assertions → (i : Instance) × (a : AssertionTree) × IsInstance program main i × Contains i.node.assertions a
      × (nth_item s.assertions k ≡ assertion_item program numbers i a)

-- the flow of a clock is on the clock of that flow
abbrev pub IsClockOf : Numbers → System → Instance → Identifier → Type 0
IsClockOf numbers s i x = (nth_item s.flows (index_of numbers.flows (place i x))).clock ≡ clock_number numbers (absolute i (clock_of i.node x))

-- the number of each flow is that of its place
abbrev pub AreIndexed : List Sites → Type 0
AreIndexed ps = (q : Sites) → Contains ps q → (index_of ps q < length ps) × (slice_index_or ps (index_of ps q) [] ≡ q)

-- a comparison of the program in the flat system
abbrev pub flat_compared : ProgramTree → Numbers → Compared → Comparison
flat_compared program numbers c = record {
  at = c.at;
  clock = clock_number numbers c.clock;
  operator = c.operator;
  left = flat_of program numbers c.within c.left;
  right = flat_of program numbers c.within c.right;
}
