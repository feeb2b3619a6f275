-- The memories, diagram variables and columns of a program in their order.
use Rattle.std.specs.Prelude.{◌≡◌, ℕ, zero, suc, ◌+◌, ◌<◌, true, cond, List, [], ◌∷◌, ◌++◌, map, flat_map, length, Some, slice_index_or}
use Rattle.std.specs.List.{Contains}
use Rattle.rv_base.specs.declared.value.Place.{Place}
use Rattle.rv_tree.specs.Tree.{Tree, Node, Binary, ProgramTree}
use Rattle.rv_tree.specs.{declared.tree.Op.Op, Places.Identifier, Places.Sites, Places.memory_place, Delays.node_delays, Delays.Delay}
use Rattle.rv_tree.specs.declared.tree.Op.TheVariants as op
use Rattle.rv_types.specs.Variables.{node_parts, is_arrow, is_integer, kind_bits}
use Rattle.rv_types.specs.Instances.{Instance, IsInstance, clock_in, node_of}
use Rattle.rv_types.specs.{declared.typed.Kind.Kind, declared.typed.Clock.TheVariants.Base, Kinds.decl_kinds, Values.operand_kind, Needs.IsBefore}

-- the sites of places
abbrev pub sites_of : List Place → List Sites
sites_of ps = map (λ q. q.sites) ps

-- places in their order, each once
abbrev pub AreRising : List Sites → Type 0
AreRising ps = (j k : ℕ) → j < k → k < length ps → IsBefore (slice_index_or ps j []) (slice_index_or ps k [])

-- the memory of a `pre` or `current` of an instance
abbrev pub delay_place : Instance → Delay → Sites
delay_place i d = memory_place i.path i.node d.site d.operand

-- a memory: its place, and the type of what it holds
pub record MemoryAt : Type 0 where
  pub place : Sites
  pub kind : Kind

abbrev pub memory_at : ProgramTree → Instance → Delay → MemoryAt
memory_at p i d = record { place = delay_place i d; kind = operand_kind p i.node d.operand }

abbrev pub memory_places : List MemoryAt → List Sites
memory_places ms = map (λ m. m.place) ms

-- The memories of the instances with these paths, in the order of their places.
pub record AreMemories (p : ProgramTree) (main : Identifier) (IsTaken : Instance → Type 0) (ms : List MemoryAt) : Type 0 where
  pub rising : AreRising (memory_places ms)
  pub all : (i : Instance) (d : Delay) → IsInstance p main i → IsTaken i → Contains (node_delays i.node) d → Contains ms (memory_at p i d)
  pub only : (m : MemoryAt) → Contains ms m → (i : Instance) × (d : Delay) × IsInstance p main i × IsTaken i × Contains (node_delays i.node) d
      × (m ≡ memory_at p i d)

-- all instances
abbrev pub IsAny : Instance → Type 0
IsAny i = Unit {0}

-- The flows of the clocks, main's base clock left out, on which a `->` stands.
pub record AreTicks (p : ProgramTree) (main : Identifier) (ps : List Sites) : Type 0 where
  pub rising : AreRising ps
  pub all : (i : Instance) (e : Tree) (q : Sites) → IsInstance p main i → Contains (node_parts i.node) e → is_arrow e ≡ true → clock_in i Base e ≡ Some q
      → Contains ps q
  pub only : (q : Sites) → Contains ps q → (i : Instance) × (e : Tree) × IsInstance p main i × Contains (node_parts i.node) e × (is_arrow e ≡ true)
      × (clock_in i Base e ≡ Some q)

-- An order test tells whether `a - b <= 0`, or whether `b - a <= 0`.
pub data Side : Type 0 where
  AtMost : Side
  AtLeast : Side

-- The tests of a comparison: the one tells `<=` and `>`, the other `>=` and `<`, and both together `=` and `<>`.
abbrev pub sides_of : Op → List Side
sides_of op.Equal = AtMost ∷ AtLeast ∷ []
sides_of op.Differs = AtMost ∷ AtLeast ∷ []
sides_of op.AtMost = AtMost ∷ []
sides_of op.Greater = AtMost ∷ []
sides_of op.AtLeast = AtLeast ∷ []
sides_of op.Less = AtLeast ∷ []
sides_of _ = []

-- a comparison of integers: its place and its operator
pub record ComparisonAt : Type 0 where
  pub place : Sites
  pub operator : Op

-- it is that comparison of the instance
abbrev pub Compares : ProgramTree → Instance → Tree → ComparisonAt → Type 0
Compares p i e c = (at s : ℕ) × (a b : Tree) × (e ≡ Node at (Some s) (Binary c.operator a b)) × (is_integer (operand_kind p i.node a) ≡ true)
    × (0 < length (sides_of c.operator)) × (c.place ≡ i.path ++ s ∷ [])

-- The comparisons of integers of all instances, in the order of their places.
pub record AreComparisons (p : ProgramTree) (main : Identifier) (cs : List ComparisonAt) : Type 0 where
  pub rising : AreRising (map (λ c. c.place) cs)
  pub all : (i : Instance) (e : Tree) (c : ComparisonAt) → IsInstance p main i → Contains (node_parts i.node) e → Compares p i e c → Contains cs c
  pub only : (c : ComparisonAt) → Contains cs c → (i : Instance) × (e : Tree) × IsInstance p main i × Contains (node_parts i.node) e × Compares p i e c

-- A diagram variable: the main tick, another tick by its clock's flow, a bit of a memory, the next copy of the variable
-- before it, a bit of an input by the numbers of both, an order test.
pub data Variable : Type 0 where
  MainTick : Variable
  Tick : Sites → Variable
  Kept : Sites → ℕ → Variable
  Next : Variable
  Input : ℕ → ℕ → Variable
  Test : Sites → Side → Variable

-- so many bits, from the least significant on
abbrev pub bits : (ℕ → Variable) → ℕ → List Variable
bits make zero = []
bits make (suc n) = bits make n ++ make n ∷ []

-- each variable, followed by its next copy
abbrev pub with_copies : List Variable → List Variable
with_copies vs = flat_map (λ v. v ∷ Next ∷ []) vs

abbrev pub memory_variables : ProgramTree → List MemoryAt → List Variable
memory_variables p ms = flat_map (λ m. bits (Kept m.place) (kind_bits p m.kind)) ms

-- the bits of the inputs from a number on
abbrev pub input_variables : ProgramTree → ℕ → List Kind → List Variable
input_variables p j [] = []
input_variables p j (k ∷ ks) = bits (Input j) (kind_bits p k) ++ input_variables p (j + 1) ks

abbrev pub test_variables : List ComparisonAt → List Variable
test_variables cs = flat_map (λ c. map (Test c.place) (sides_of c.operator)) cs

-- The diagram variables in order: the state bits, which are the main tick, the other ticks and the bits of the control
-- memories, each with its next copy; then the bits of the control inputs; then the order tests.
pub record AreVariables (p : ProgramTree) (main : Identifier) (vs : List Variable) : Type 0 where
  pub ticks : List Sites
  pub memories : List MemoryAt
  pub comparisons : List ComparisonAt
  pub are_ticks : AreTicks p main ticks
  pub are_memories : AreMemories p main IsAny memories
  pub are_comparisons : AreComparisons p main comparisons
  pub list : vs ≡ with_copies (MainTick ∷ map Tick ticks ++ memory_variables p memories)
      ++ (input_variables p 0 (decl_kinds p (node_of p main).inputs) ++ test_variables comparisons)

-- A column: an integer memory, or an integer input by its number.
pub data Column : Type 0 where
  KeptColumn : Sites → Column
  InputColumn : ℕ → Column

abbrev pub memory_columns : List MemoryAt → List Column
memory_columns ms = flat_map (λ m. cond (is_integer m.kind) (KeptColumn m.place ∷ []) []) ms

-- those of the inputs from a number on
abbrev pub input_columns : ℕ → List Kind → List Column
input_columns j [] = []
input_columns j (k ∷ ks) = cond (is_integer k) (InputColumn j ∷ []) [] ++ input_columns (j + 1) ks

-- The columns in order: the integer memories, then the integer inputs.
pub record AreColumns (p : ProgramTree) (main : Identifier) (cs : List Column) : Type 0 where
  pub memories : List MemoryAt
  pub are_memories : AreMemories p main IsAny memories
  pub list : cs ≡ memory_columns memories ++ input_columns 0 (decl_kinds p (node_of p main).inputs)
