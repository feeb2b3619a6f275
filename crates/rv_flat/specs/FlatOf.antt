-- A flat system is that of a program: both have the same instants at every state, and the same states after them.
use Rattle.std.specs.Prelude.{◌≡◌, ℕ, suc, zero, ◌<◌, ◌↔◌, ◌⊎◌, true, false, List, [], ◌∷◌, ◌++◌, map, length, Option, Some, slice_get, slice_index_or}
use Rattle.std.specs.Prelude.{None as Nothing}
use Rattle.std.specs.{FinMap.empty, FinMap.insert, List.Contains}
use Rattle.rv_base.specs.{declared.value.Value.Value, declared.value.Value.TheVariants.Flag}
use Rattle.rv_tree.specs.{Tree.AssertionTree, Tree.ProgramTree, Places.Identifier, Places.Sites, Places.names, Places.flows, Places.index_of}
use Rattle.rv_types.specs.Instances.{Instance, place, node_of, IsInstance, IsFlow}
use Rattle.rv_types.specs.{declared.typed.Clock.TheVariants.Base, Kinds.decl_kinds, Kinds.flow_kind, Names.labels_of, Names.texts, Needs.IsSequence}
use Rattle.rv_types.specs.{Lists.IsAny, Lists.AreMemories, Lists.AreVariables, Lists.AreColumns, Variables.variable_count}
use Rattle.rv_meaning.specs.Instants.{State as Brought, IsInstant, IsNext, value_now}
use Rattle.rv_meaning.specs.{Meaning.is_true, Runs.Instant, Runs.cell, Runs.observer_place}
use Rattle.rv_agreement.specs.Valuations.{Valuation, Reading, IsSymbolic, Comparison, all_comparisons}
use Rattle.rv_agreement.specs.{ProgramAgreement.IsSystemOf, ProgramAgreement.KeepsProducts, Programs.Compared, Programs.IsComparison, Programs.IsSymbolicOf}
use Rattle.rv_agreement.specs.{Translation.Numbers, Translation.flat_compared, Trees.FlatTree, Trees.Node, Trees.Constant}
use Rattle.rv_flat.specs.Lists.{tick_places, variable_of, column_of}
use Rattle.rv_flat.specs.FlatInstants.{Row, places, memory_places, assertion_trees, system_of, value_at, IsFlatInstant, IsFlatNext}
use Rattle.rv_flat.specs.{declared.flat.Flat.Flat, declared.state.State.State, Systems.memory_of, Thresholds.AreThresholds}

-- the places of the flows, of the memories, and of the flows of the ticks but the main one, by their numbers
abbrev pub numbers_of : Flat → Numbers
numbers_of f = record { flows = places f; memories = memory_places f; ticks = tick_places f.variables }

-- what a state of the program is to the flat system: by the ticks and memories in their order
abbrev pub flat_state : Flat → Brought → State
flat_state f state = record {
  ticked = map state.ticked (Nothing ∷ map (λ p. Some p) (tick_places f.variables));
  kept = map state.kept (memory_places f);
}

-- the first values, as many as are said
abbrev pub first_values : (ℕ → Value) → ℕ → List Value
first_values values zero = []
first_values values (suc n) = first_values values n ++ values n ∷ []

-- what the inputs are to it
abbrev pub flat_inputs : Flat → (ℕ → Value) → List Value
flat_inputs f inputs = first_values inputs (length f.inputs)

-- what an instant of the program has at the flows, in their order
abbrev pub row_of : List Sites → Instant → Row
row_of ps instant = map (λ p. cell instant p) ps

-- the instant that has a row at these places, and nothing else
abbrev pub instant_of : List Sites → Row → Instant
instant_of [] row = empty
instant_of (p ∷ ps) [] = empty
instant_of (p ∷ ps) (x ∷ row) = insert (instant_of ps row) p x

-- the assertion at a place is there and not true, in the program
abbrev pub IsBroken : ProgramTree → Identifier → Brought → Instant → Sites → Type 0
IsBroken program main state row q = (i : Instance) × (a : AssertionTree) × (v : Value) × IsInstance program main i × Contains i.node.assertions a
    × (q ≡ i.path ++ a.site ∷ []) × (value_now program state row i Base a.body ≡ Some v) × (is_true v ≡ false)

abbrev pub no_assertion : FlatTree
no_assertion = Node [] (Constant (Flag true))

-- and in the flat system
abbrev pub IsFlatBroken : Flat → State → List Value → Row → Sites → Type 0
IsFlatBroken f now inputs row q = (k : ℕ) × (k < length f.assertions) × (q ≡ slice_index_or (map (λ e. e.at.sites) f.assertions) k [])
    × (is_true (value_at now inputs row (slice_index_or (assertion_trees f) k no_assertion)) ≡ false)

module _ (program : ProgramTree) (main : Identifier) where
  -- What a flat system has of its program beside the instants: names, types, memories, variables, as many as are counted,
  -- columns, labels, thresholds, and an order of evaluation of the flows.
  pub record IsFlatOf (f : Flat) : Type 0 where
    pub name : f.main ≡ main
    pub inputs : map (λ i. i.name) f.inputs ≡ names (node_of program main).inputs
    pub input_kinds : map (λ i. i.kind) f.inputs ≡ decl_kinds program (node_of program main).inputs
    pub memories : AreMemories program main IsAny (map memory_of f.memories)
    pub variables : AreVariables program main (map variable_of f.variables)
    pub counted : length f.variables ≡ variable_count program main
    pub columns : AreColumns program main (map column_of f.columns)
    pub sequence : IsSequence program main (places f)
    pub kinds : (i : Instance) (x : Identifier) (k : ℕ) → IsInstance program main i → Contains (flows i.node) x → k < length f.flows
        → slice_index_or (places f) k [] ≡ place i x
        → slice_get (map (λ g. g.kind) f.flows) k ≡ flow_kind program i.node x
    pub observer : slice_index_or (places f) f.observer [] ≡ observer_place program main
    pub labels : f.labels ≡ map (λ d. texts (labels_of d)) program.types
    pub thresholds : AreThresholds program f.thresholds
    -- the instants
    pub instants : (state : Brought) (inputs : ℕ → Value) (row : Instant) → IsInstant program main state inputs row
        → IsFlatInstant f (flat_state f state) (flat_inputs f inputs) (row_of (places f) row)
    pub rows : (state : Brought) (inputs : ℕ → Value) (row : Row) → IsFlatInstant f (flat_state f state) (flat_inputs f inputs) row
        → IsInstant program main state inputs (instant_of (places f) row)
    pub kept : (row : Row) → length row ≡ length f.flows → row_of (places f) (instant_of (places f) row) ≡ row
    pub next : (state next : Brought) (inputs : ℕ → Value) (row : Instant) → IsInstant program main state inputs row → IsNext program main state row next
        → IsFlatNext f (flat_state f state) (flat_inputs f inputs) (row_of (places f) row) (flat_state f next)
    pub assertions : (state : Brought) (inputs : ℕ → Value) (row : Instant) (q : Sites) → IsInstant program main state inputs row
        → IsBroken program main state row q ↔ IsFlatBroken f (flat_state f state) (flat_inputs f inputs) (row_of (places f) row) q
    -- the system: it is well formed, and read from the program with all that it names
    pub system : IsSystemOf program main (numbers_of f) (system_of f)
    -- the constant operand of each product has its value
    pub products : KeepsProducts program main
    -- the symbolic instants
    pub symbolic : (v : Valuation) (cells : Sites → Option Reading) → IsSymbolicOf program main (map memory_of f.memories) v cells
        → ((q : Sites) → IsFlow program main q ⊎ (cells q ≡ Nothing)) → IsSymbolic (system_of f) v (map cells (places f))
    pub symbolic_rows : (v : Valuation) (row : List (Option Reading)) → IsSymbolic (system_of f) v row
        → IsSymbolicOf program main (map memory_of f.memories) v (λ q. slice_index_or row (index_of (places f) q) Nothing)
    -- the comparisons, each on its clock
    pub compares : (c : Compared) → IsComparison program main c → Contains (all_comparisons (system_of f)) (flat_compared program (numbers_of f) c)
    pub compares_only : (d : Comparison) → Contains (all_comparisons (system_of f)) d
        → (c : Compared) × IsComparison program main c × (d ≡ flat_compared program (numbers_of f) c)
