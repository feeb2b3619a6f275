-- One instant of a program: what its flows have, given what its clocks and memories bring along and what its inputs
-- have; and what the clocks and memories bring to the next one.
-- (Jeannet 2003 for states and their successors.)
use Rattle.std.specs.Prelude.{◌≡◌, ℕ, ◌+◌, ◌<◌, ◌↔◌, ◌⊎◌, pos, ◌-ℤ◌, Bool, true, false, not, ◌||◌, cond, nat_le, unwrap_or, ◌∷◌, ◌++◌, [], length, Option, Some}
use Rattle.std.specs.Prelude.{IsSome, slice_get, None as Nothing}
use Rattle.std.specs.List.{Contains}
use Rattle.std.specs.FinMap as map
use Rattle.rv_base.specs.{declared.value.Value.Value, declared.value.Value.TheVariants.Flag, declared.value.Value.TheVariants.Whole}
use Rattle.rv_tree.specs.Tree.{Tree, Node, Form, True, False, Number, Named, Not, Minus, Pre, Current, When, Binary, If, AtMostOne, Call, Trees, None, More}
use Rattle.rv_tree.specs.Tree.{AssertionTree, ProgramTree}
use Rattle.rv_tree.specs.{Places.Identifier, Places.Sites, Places.flows, Places.is_flow, Delays.Delay, Delays.node_delays}
use Rattle.rv_types.specs.Instances.{CallTree, Right, Body, Output, IsRight, IsArgument, calls, clock_of, Instance, place, absolute, clock_in}
use Rattle.rv_types.specs.Instances.{clock_of_arguments, output_place, node_of, IsInstance, IsFlow}
use Rattle.rv_types.specs.{declared.typed.Kind.Kind, declared.typed.Clock.Clock, declared.typed.Clock.TheVariants.Base, Kinds.decl_kinds, Scopes.constant_value}
use Rattle.rv_types.specs.{Values.HasKind}
use Rattle.rv_meaning.specs.{Meaning.is_true, Meaning.number, Meaning.held, Meaning.is_on, Meaning.operate, Meaning.kept_place, Runs.Instant, Runs.cell}

-- What an instant finds: whether a clock has been there before, main's where there is no flow, and what the memory at a
-- place holds.
pub record State : Type 0 where
  pub ticked : Option Sites → Bool
  pub kept : Sites → Value

-- whether a clock is there in the row of an instant
abbrev pub is_on_in : Instant → Option Sites → Bool
is_on_in row Nothing = true
is_on_in row (Some p) = is_on (cell row p)

-- What an expression has in a row, at a state: a `pre` is the memory of its place, `current E` is E where E is present
-- and that memory elsewhere, and `E -> F` goes by whether its clock has been there before.
module _ (program : ProgramTree) (state : State) (row : Instant) (i : Instance) where
  -- the memory of a `pre` or `current`
  abbrev pub memory : Option ℕ → Tree → Value
  memory site e = state.kept (kept_place i site e)

  abbrev mutual
    pub now : Tree → Value
    now (Node at site form) = form_now site form

    pub form_now : Option ℕ → Form → Value
    form_now site True = Flag true
    form_now site False = Flag false
    form_now site (Number n) = Whole (pos n)
    form_now site (Named x) = cond (is_flow i.node x) (held (cell row (place i x))) (constant_value program x)
    form_now site (Not e) = Flag (not (is_true (now e)))
    form_now site (Minus e) = Whole (pos 0 -ℤ number (now e))
    form_now site (Pre e) = memory site e
    form_now site (Current e) = cond (is_on_in row (clock_in i Base e)) (now e) (memory site e)
    form_now site (When e c) = now e
    form_now site (Binary o a b) = operate o (not (state.ticked (clock_in i Base (Node 0 site (Binary o a b))))) (now a) (now b)
    form_now site (If a b c) = cond (is_true (now a)) (now b) (now c)
    form_now site (AtMostOne es) = Flag (nat_le (trues_now es) 1)
    form_now site (Call f args) = held (cell row (output_place program i (unwrap_or site 0) f 0))

    -- how many are true
    pub trues_now : Trees → ℕ
    trues_now None = 0
    trues_now (More e es) = cond (is_true (now e)) 1 0 + trues_now es

  -- the same, absent where its clock is; a free expression takes the clock k
  abbrev pub value_now : Clock → Tree → Option Value
  value_now k e = cond (is_on_in row (clock_in i k e)) (Some (now e)) Nothing

  -- the same of a right side
  abbrev pub right_now : Clock → Right → Option Value
  right_now k (Body e) = value_now k e
  right_now k (Output c j) = cond (is_on_in row (absolute i (clock_of_arguments i c.args))) (Some (held (cell row (output_place program i c.site c.name j))))
      Nothing

module _ (program : ProgramTree) (main : Identifier) where
  -- An instant at a state, where the inputs of the main node have these values: the flows are absent or have values so
  -- that every equation holds.
  pub record IsInstant (state : State) (inputs : ℕ → Value) (row : Instant) : Type 0 where
    pub places : (p : Sites) → IsSome (map.get row p) ↔ IsFlow program main p
    pub given : (j : ℕ) → j < length (node_of program main).inputs → cell row (j ∷ []) ≡ Some (inputs j)
    pub equations : (i : Instance) (x : Identifier) (r : Right) → IsInstance program main i → IsRight i.node x r
        → cell row (place i x) ≡ right_now program state row i (clock_of i.node x) r
    pub arguments : (i : Instance) (c : CallTree) (j : ℕ) (e : Tree) → IsInstance program main i → Contains (calls i.node) c → IsArgument c.args j e
        → cell row (i.path ++ c.site ∷ j ∷ []) ≡ value_now program state row i (clock_of_arguments i c.args) e
    pub clocks : (i : Instance) (x : Identifier) → IsInstance program main i → Contains (flows i.node) x
        → IsSome (cell row (place i x)) ↔ (is_on_in row (absolute i (clock_of i.node x)) ≡ true)

  -- The state after that instant: a clock has been there where it had or is there, and each memory has its operand's
  -- value where that is present, and keeps its own elsewhere.
  pub record IsNext (state : State) (row : Instant) (next : State) : Type 0 where
    pub ticks : (k : Option Sites) → next.ticked k ≡ (state.ticked k || is_on_in row k)
    pub memories : (i : Instance) (d : Delay) → IsInstance program main i → Contains (node_delays i.node) d
        → next.kept (kept_place i d.site d.operand)
        ≡ cond (is_on_in row (clock_in i Base d.operand)) (now program state row i d.operand) (state.kept (kept_place i d.site d.operand))

  -- every assertion of every instance is true or absent there
  abbrev pub AllowsAt : State → Instant → Type 0
  AllowsAt state row = (i : Instance) (a : AssertionTree) → IsInstance program main i → Contains i.node.assertions a
      → (value_now program state row i Base a.body ≡ Nothing) ⊎ (value_now program state row i Base a.body ≡ Some (Flag true))

  -- each input of the main node has a value of its type
  abbrev pub AreGiven : (ℕ → Value) → Type 0
  AreGiven inputs = (j : ℕ) (k : Kind) → slice_get (decl_kinds program (node_of program main).inputs) j ≡ Some k → HasKind program k (inputs j)

  -- No clock has been there, and each memory has its start value.
  pub record IsStart (starts : Sites → Value) (state : State) : Type 0 where
    pub ticks : (k : Option Sites) → state.ticked k ≡ false
    pub memories : (i : Instance) (d : Delay) → IsInstance program main i → Contains (node_delays i.node) d
        → state.kept (kept_place i d.site d.operand) ≡ starts (kept_place i d.site d.operand)
