-- Traces of a program: which values they have, and the start values and inputs that they fix.
use Rattle.std.specs.Prelude.{◌≡◌, ℕ, ◌<◌, ◌≤◌, ◌^◌, false, List, [], map, length, Some, slice_get, slice_index_or}
use Rattle.rv_base.specs.{declared.value.Value.Value, declared.value.Value.TheVariants.Flag, declared.value.Trace.Trace}
use Rattle.rv_tree.specs.{Tree.ProgramTree, Places.Identifier, Places.Sites}
use Rattle.rv_types.specs.{declared.typed.Kind.Kind, Instances.node_of, Kinds.decl_kinds, Lists.MemoryAt, Lists.AreMemories, Lists.IsAny, Values.HasKind}
use Rattle.rv_flat.specs.{declared.flat.Flat.Flat, FlatOf.first_values, Steps.AreValues, Steps.IsInRange, Steps.memory_kinds, Steps.input_kinds}

-- One value of each of these types; the integers are from -2^63 to 2^63 - 1.
pub record AreTyped (program : ProgramTree) (kinds : List Kind) (values : List Value) : Type 0 where
  pub size : length values ≡ length kinds
  pub typed : (k : ℕ) (j : Kind) → slice_get kinds k ≡ Some j → HasKind program j (slice_index_or values k (Flag false))
  pub within : (k : ℕ) → k < length values → IsInRange (slice_index_or values k (Flag false))

-- the types of what memories hold
abbrev pub kinds_of : List MemoryAt → List Kind
kinds_of ms = map (λ m. m.kind) ms

-- what the inputs have at an instant of a trace
abbrev pub given : Trace → ℕ → List Value
given t k = slice_index_or t.instants k []

module _ (program : ProgramTree) (main : Identifier) where
  -- A trace: one start value for each memory, in the order of their places, and at each instant one value for each input of the
  -- main node. It has fewer than 2^32 instants.
  pub record IsTrace (t : Trace) : Type 0 where
    pub memories : List MemoryAt
    pub listed : AreMemories program main IsAny memories
    pub starts : AreTyped program (kinds_of memories) t.starts
    pub instants : (k : ℕ) → k < length t.instants → AreTyped program (decl_kinds program (node_of program main).inputs) (given t k)
    pub count : length t.instants < 2 ^ 32

  -- The start values, by place, are those of the trace, and so are the inputs of its first n instants, by instant and number.
  pub record Fixes (t : Trace) (n : ℕ) (starts : Sites → Value) (inputs : ℕ → ℕ → Value) : Type 0 where
    pub memories : List MemoryAt
    pub listed : AreMemories program main IsAny memories
    pub started : map (λ m. starts m.place) memories ≡ t.starts
    pub count : n ≤ length t.instants
    pub fed : (k : ℕ) → k < n → first_values (inputs k) (length (node_of program main).inputs) ≡ given t k

-- The same of the memories and inputs of a flat system, with the labels that it has.
pub record IsFlatTrace (f : Flat) (t : Trace) : Type 0 where
  pub starts : AreValues f (memory_kinds f) t.starts
  pub instants : (k : ℕ) → k < length t.instants → AreValues f (input_kinds f) (given t k)
  pub count : length t.instants < 2 ^ 32
