-- Histories and runs: every equation of every instance holds at each instant, in no order.
-- (Halbwachs, Caspi, Raymond and Pilaud 1991: a program is its equations.)
use Rattle.std.specs.Prelude.{◌≡◌, ℕ, ◌+◌, ◌<◌, ◌≤◌, ◌↔◌, ◌⊎◌, true, false, List, [], ◌∷◌, ◌++◌, length, Option, Some, IsSome, slice_get, slice_index_or}
use Rattle.std.specs.Prelude.{None as Nothing}
use Rattle.std.specs.{Ordering.nat_cmp, Cmp.Lexicographic.slice_cmp, List.Contains}
use Rattle.std.specs.FinMap as map
use Rattle.rv_base.specs.{declared.value.Value.Value, declared.value.Value.TheVariants.Flag}
use Rattle.rv_tree.specs.{Tree.Tree, Tree.AssertionTree, Tree.ProgramTree, Places.Identifier, Places.Sites, Places.flows, Delays.Delay, Delays.node_delays}
use Rattle.rv_types.specs.Instances.{CallTree, Right, IsRight, IsArgument, calls, clock_of, Instance, place, absolute, clock_of_arguments, node_of, IsInstance}
use Rattle.rv_types.specs.Instances.{IsFlow}
use Rattle.rv_types.specs.{declared.typed.Kind.Kind, declared.typed.Clock.TheVariants.Base, Kinds.decl_kinds, Values.HasKind, Values.operand_kind}
use Rattle.rv_meaning.specs.Meaning.{Cells, is_there, kept_place, value, right_value}

-- what the flows have at one instant: each place has a value, or is absent
abbrev pub Instant : Type 0
Instant = map.FinMap (slice_cmp nat_cmp) (Option Value)

-- A history: what the flows have at each of its instants.
abbrev pub History : Type 0
History = List Instant

-- no entry is as good as an absent flow
abbrev pub flat : Option (Option Value) → Option Value
flat Nothing = Nothing
flat (Some v) = v

-- what a flow has in a row
abbrev pub cell : Instant → Sites → Option Value
cell row p = flat (map.get row p)

-- what a flow has at an instant of a history
abbrev pub cells : History → Cells
cells h t p = cell (slice_index_or h t map.empty) p

module _ (program : ProgramTree) (main : Identifier) where
  -- A history of n instants has at each of them exactly the places of all flows.
  pub record IsHistory (n : ℕ) (h : History) : Type 0 where
    pub instants : length h ≡ n
    pub places : (t : ℕ) (p : Sites) → t < n → IsSome (map.get (slice_index_or h t map.empty) p) ↔ IsFlow program main p

  -- each memory has a start value of its type
  abbrev pub AreStarts : (Sites → Value) → Type 0
  AreStarts starts = (i : Instance) (d : Delay) → IsInstance program main i → Contains (node_delays i.node) d
      → HasKind program (operand_kind program i.node d.operand) (starts (kept_place i d.site d.operand))

  -- each input of the main node has at each of the first n instants a value of its type
  abbrev pub AreInputs : ℕ → (ℕ → ℕ → Value) → Type 0
  AreInputs n inputs = (t j : ℕ) (k : Kind) → t < n → slice_get (decl_kinds program (node_of program main).inputs) j ≡ Some k → HasKind program k (inputs t j)

  -- A run of n instants from these start values, by place, and these inputs, by instant and number.
  pub record IsRun (starts : Sites → Value) (inputs : ℕ → ℕ → Value) (n : ℕ) (h : History) : Type 0 where
    pub starts_typed : AreStarts starts
    pub inputs_typed : AreInputs n inputs
    pub history : IsHistory n h
    pub given : (t j : ℕ) → t < n → j < length (node_of program main).inputs → cells h t (j ∷ []) ≡ Some (inputs t j)
    pub equations : (t : ℕ) (i : Instance) (x : Identifier) (r : Right) → t < n → IsInstance program main i → IsRight i.node x r
        → cells h t (place i x) ≡ right_value program starts (cells h) i (clock_of i.node x) r t
    pub arguments : (t : ℕ) (i : Instance) (c : CallTree) (j : ℕ) (e : Tree) → t < n → IsInstance program main i → Contains (calls i.node) c
        → IsArgument c.args j e
        → cells h t (i.path ++ c.site ∷ j ∷ []) ≡ value program starts (cells h) i (clock_of_arguments i c.args) e t
    pub clocks : (t : ℕ) (i : Instance) (x : Identifier) → t < n → IsInstance program main i → Contains (flows i.node) x
        → IsSome (cells h t (place i x)) ↔ (is_there (cells h) (absolute i (clock_of i.node x)) t ≡ true)

  -- each assertion of each instance is true or absent at t
  abbrev pub AssertionsHold : (Sites → Value) → History → ℕ → Type 0
  AssertionsHold starts h t = (i : Instance) (a : AssertionTree) → IsInstance program main i → Contains i.node.assertions a
      → (value program starts (cells h) i Base a.body t ≡ Nothing) ⊎ (value program starts (cells h) i Base a.body t ≡ Some (Flag true))

  -- A run is allowed up to t where the assertions hold at each of the instants 0 to t.
  abbrev pub IsAllowed : (Sites → Value) → History → ℕ → Type 0
  IsAllowed starts h t = (s : ℕ) → s ≤ t → AssertionsHold starts h s

  -- the place of the observer: the one output of the main node
  abbrev pub observer_place : Sites
  observer_place = length (node_of program main).inputs ∷ []

  -- what the observer has
  abbrev pub observed : History → ℕ → Option Value
  observed h t = cells h t observer_place

  -- Safe: in every run the observer is true at each instant up to which the run is allowed.
  abbrev pub IsSafe : Type 0
  IsSafe = (n t : ℕ) (starts : Sites → Value) (inputs : ℕ → ℕ → Value) (h : History) → IsRun starts inputs n h → t < n → IsAllowed starts h t
      → observed h t ≡ Some (Flag true)

  -- The run of n + 1 instants from these starts and inputs is allowed up to the last one, and the observer is
  -- false there and true at all earlier instants.
  abbrev pub Falsifies : (Sites → Value) → (ℕ → ℕ → Value) → ℕ → Type 0
  Falsifies starts inputs n = (h : History) × IsRun starts inputs (n + 1) h × IsAllowed starts h n × (observed h n ≡ Some (Flag false))
      × ((t : ℕ) → t < n → observed h t ≡ Some (Flag true))
