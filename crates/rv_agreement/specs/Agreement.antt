-- A state in whole numbers and inputs, and the valuations with which they agree.
use Rattle.std.specs.Prelude.{◌≡◌, ℕ, suc, ◌<◌, ℤ, Bool, false, cond, ◌||◌, List, [], ◌∷◌, ◌++◌, length, Option, Some, slice_index_or, None as Nothing}
use Rattle.std.specs.List.{Contains}
use Rattle.rv_base.specs.declared.value.Value.{Value}
use Rattle.rv_base.specs.declared.value.Value.TheVariants.{Flag, Label, Whole}
use Rattle.rv_tree.specs.{declared.tree.Op.Op, Places.Sites}
use Rattle.rv_tree.specs.declared.tree.Op.TheVariants as op
use Rattle.rv_types.specs.{declared.typed.Kind.Kind, Lists.Side, Lists.sides_of, Variables.is_integer, Variables.bits_for}
use Rattle.rv_types.specs.declared.typed.Kind.TheVariants as kind
use Rattle.rv_meaning.specs.Codes.{code}
use Rattle.rv_rows.specs.declared.linear.Form.{Form}
use Rattle.rv_agreement.specs.Trees.{FlatTree, Node, TreeForm, FlatTrees, Constant, Flow, Memory, Ticked, Input, Not, Binary, Scale, If, AtMostOne, When}
use Rattle.rv_agreement.specs.Trees.{Current, None, More, Item, nth_item, System, memory_items, memory_kinds, memory_places, kind_at}
use Rattle.rv_agreement.specs.Evaluation.{Found, IsInstant, is_there, value, after, is_met, integers, nth}
use Rattle.rv_agreement.specs.Valuations.{Valuation, Reading, Truth, Name, wholes, at_point, form_of, width, IsSymbolic, Comparison, all_comparisons, is_placed}
use Rattle.rv_agreement.specs.Valuations.{IsPresent, tested, Agrees, updated, next_tick, observed, reads_at, found_at}

-- what a flat system brings to an instant: whether each tick has been, and what each memory holds
pub record State : Type 0 where
  pub ticked : List Bool
  pub kept : List Value

-- The point of a state and inputs: the integer memories, then the integer inputs.
abbrev pub point : System → State → List Value → List ℤ
point s now inputs = wholes (memory_kinds s) now.kept ++ wholes s.inputs inputs

abbrev pub found_in : State → List Value → Found Value
found_in now inputs = record {
  ticked = λ k. slice_index_or now.ticked k false;
  kept = λ m. slice_index_or now.kept m (Flag false);
  given = λ j. slice_index_or inputs j (Flag false);
}

-- an instant in whole numbers
abbrev pub IsWholeInstant : System → State → List Value → List (Option Value) → Type 0
IsWholeInstant s now inputs row = IsInstant Value integers s (found_in now inputs) row

-- the state after it
pub record IsNext (s : System) (now : State) (inputs : List Value) (row : List (Option Value)) (next : State) : Type 0 where
  pub ticks : length next.ticked ≡ length s.tick_clocks
  pub ticked : (k : ℕ) → k < length s.tick_clocks → slice_index_or next.ticked k
      false ≡ (slice_index_or now.ticked k false || is_there Value integers row (slice_index_or s.tick_clocks k Nothing))
  pub memories : length next.kept ≡ length s.memories
  pub kept : (m : ℕ) → m < length s.memories → slice_index_or next.kept m (Flag false) ≡ after Value integers (found_in now inputs) row
      (nth_item (memory_items s) m) m

-- a value of a type, whole numbers of any size
abbrev pub HasKind : List ℕ → Kind → Value → Type 0
HasKind labels kind.Bool (Flag b) = Unit {0}
HasKind labels kind.Int (Whole z) = Unit {0}
HasKind labels (kind.Labels i) (Label l) = l < slice_index_or labels i 0
HasKind labels _ _ = ⊥

-- one value of each type
pub record AreTyped (labels : List ℕ) (kinds : List Kind) (values : List Value) : Type 0 where
  pub many : length values ≡ length kinds
  pub each : (k : ℕ) → k < length kinds → HasKind labels (kind_at kinds k) (slice_index_or values k (Flag false))

pub record IsTyped (s : System) (now : State) (inputs : List Value) : Type 0 where
  pub memories : AreTyped s.labels (memory_kinds s) now.kept
  pub given : AreTyped s.labels s.inputs inputs

-- the value of a control type that bits spell
abbrev pub IsSpelled : List ℕ → Kind → (ℕ → Bool) → Value → Type 0
IsSpelled labels kind.Bool bits value = value ≡ Flag (bits 0)
IsSpelled labels kind.Int bits value = Unit {0}
IsSpelled labels (kind.Labels i) bits value = value ≡ Label (code (bits_for (slice_index_or labels i 0)) bits)

-- The valuation spells the ticks, the control memories and the control inputs.
pub record Spells (s : System) (v : Valuation) (now : State) (inputs : List Value) : Type 0 where
  pub ticks : (k : ℕ) → k < length s.ticks → slice_index_or now.ticked k false ≡ v.ticked (slice_index_or s.ticks k Nothing)
  pub memories : (m : ℕ) → m < length s.memories → IsSpelled s.labels (kind_at (memory_kinds s) m) (v.kept (slice_index_or (memory_places s) m []))
      (slice_index_or now.kept m (Flag false))
  pub given : (j : ℕ) → j < length s.inputs → IsSpelled s.labels (kind_at s.inputs j) (v.input j) (slice_index_or inputs j (Flag false))

-- A state and inputs agree with a valuation: it spells the control, and their point meets every row of the symbolic instant.
abbrev pub IsAgreed : System → Valuation → List (Option Reading) → State → List Value → Type 0
IsAgreed s v row now inputs = Spells s v now inputs × IsSymbolic s v row × Agrees s v row (point s now inputs)

-- What a flat system keeps in its type: each expression is of one type and on one clock, numbers are in range, flows name earlier
-- flows alone, each on its own clock, `Current` shows the clock and body of its memory, products are scalings, choices by a tick
-- are choices, comparisons of integers stand at places of their own.

-- an operator between operands of the type i gives the type j
abbrev pub IsRule : Op → Kind → Kind → Type 0
IsRule op.Implies i j = (i ≡ kind.Bool) × (j ≡ kind.Bool)
IsRule op.Or i j = (i ≡ kind.Bool) × (j ≡ kind.Bool)
IsRule op.Xor i j = (i ≡ kind.Bool) × (j ≡ kind.Bool)
IsRule op.And i j = (i ≡ kind.Bool) × (j ≡ kind.Bool)
IsRule op.Equal i j = j ≡ kind.Bool
IsRule op.Differs i j = j ≡ kind.Bool
IsRule op.Less i j = (i ≡ kind.Int) × (j ≡ kind.Bool)
IsRule op.AtMost i j = (i ≡ kind.Int) × (j ≡ kind.Bool)
IsRule op.Greater i j = (i ≡ kind.Int) × (j ≡ kind.Bool)
IsRule op.AtLeast i j = (i ≡ kind.Int) × (j ≡ kind.Bool)
IsRule op.Plus i j = (i ≡ kind.Int) × (j ≡ kind.Int)
IsRule op.Minus i j = (i ≡ kind.Int) × (j ≡ kind.Int)
IsRule _ i j = ⊥

-- a comparison has a place exactly where it is one of integers
abbrev pub IsPlaced : Sites → Op → Kind → Type 0
IsPlaced at o i = 0 < length (sides_of o) → is_placed at ≡ is_integer i

abbrev pub IsNamed : ℕ → Option ℕ → Type 0
IsNamed before Nothing = Unit {0}
IsNamed before (Some n) = n < before

module _ (s : System) where
  abbrev mutual
    -- an expression of the type j on the clock k, over the first flows, as many as are said
    pub Fits : ℕ → Option ℕ → Kind → FlatTree → Type 0
    Fits before k j (Node at form) = FormFits before k j at form

    pub FormFits : ℕ → Option ℕ → Kind → Sites → TreeForm → Type 0
    FormFits before k j at (Constant c) = HasKind s.labels j c
    FormFits before k j at (Flow n) = (n < before) × (kind_at s.kinds n ≡ j) × ((nth_item s.flows n).clock ≡ k)
    FormFits before k j at (Memory m) = (m < length s.memories) × (kind_at (memory_kinds s) m ≡ j)
    FormFits before k j at (Ticked t) = (t < length s.ticks) × (j ≡ kind.Bool)
    FormFits before k j at (Input i) = (i < length s.inputs) × (kind_at s.inputs i ≡ j)
    FormFits before k j at (Not e) = (j ≡ kind.Bool) × Fits before k kind.Bool e
    FormFits before k j at (Binary o a b) = (i : Kind) × IsRule o i j × IsPlaced at o i × Fits before k i a × Fits before k i b
    FormFits before k j at (Scale z e) = (j ≡ kind.Int) × Fits before k kind.Int e
    FormFits before k j at (If c a b) = Fits before k kind.Bool c × Fits before k j a × Fits before k j b
    FormFits before k j at (AtMostOne es) = (j ≡ kind.Bool) × AllFit before k es
    FormFits before k j at (When c e) = (k ≡ Some c) × (c < before) × Fits before (nth_item s.flows c).clock j e
    FormFits before k j at (Current m i e) = (m < length s.memories) × (kind_at (memory_kinds s) m ≡ j)
        × (nth_item (memory_items s) m ≡ record { clock = i; body = e }) × IsNamed before i × Fits before i j e

    pub AllFit : ℕ → Option ℕ → FlatTrees → Type 0
    AllFit before k None = Unit {0}
    AllFit before k (More e es) = Fits before k kind.Bool e × AllFit before k es

  abbrev pub ItemFits : ℕ → Kind → Item → Type 0
  ItemFits before j x = IsNamed before x.clock × Fits before x.clock j x.body

  -- comparisons at one place have the same operands
  abbrev pub AreApart : Type 0
  AreApart = (c d : Comparison) → Contains (all_comparisons s) c → Contains (all_comparisons s) d → c.at ≡ d.at → (c.left ≡ d.left) × (c.right ≡ d.right)

  pub record IsWell : Type 0 where
    pub kinds : length s.kinds ≡ length s.flows
    pub flows : (k : ℕ) → k < length s.flows → ItemFits k (kind_at s.kinds k) (nth_item s.flows k)
    pub memories : (m : ℕ) → m < length s.memories → ItemFits (length s.flows) (kind_at (memory_kinds s) m) (nth_item (memory_items s) m)
    pub assertions : (k : ℕ) → k < length s.assertions → ItemFits (length s.flows) kind.Bool (nth_item s.assertions k)
    pub observer : s.observer < length s.flows
    pub ticks : length s.tick_clocks ≡ length s.ticks
    pub tick_clocks : (k : ℕ) → k < length s.tick_clocks → IsNamed (length s.flows) (slice_index_or s.tick_clocks k Nothing)
    pub ticks_apart : (j k : ℕ) → j < length s.ticks → k < length s.ticks → slice_index_or s.ticks j Nothing ≡ slice_index_or s.ticks k Nothing → j ≡ k
    pub memories_apart : (j k : ℕ) → j < length s.memories → k < length s.memories
        → slice_index_or (memory_places s) j [] ≡ slice_index_or (memory_places s) k [] → j ≡ k
    pub apart : AreApart

-- what a flow has at a point
abbrev pub value_there : List ℤ → Option Reading → Option Value
value_there x Nothing = Nothing
value_there x (Some a) = Some (at_point x a)

-- The symbolic instant gives the values, the truth of the assertions and of the observer, and the state after the instant.
pub record Gives (s : System) (v : Valuation) (symbolic : List (Option Reading)) (now : State) (inputs : List Value) (row : List (Option Value))
    (next : State) : Type 0 where
  pub flows : (k : ℕ) → k < length s.flows → nth Value integers row k ≡ value_there (point s now inputs) (nth Reading (reads_at s v) symbolic k)
  pub assertions : (k : ℕ) → k < length s.assertions
      → is_met Value integers (found_in now inputs) row (nth_item s.assertions k) ≡ is_met Reading (reads_at s v) (found_at s v) symbolic
      (nth_item s.assertions k)
  pub observer : nth Value integers row s.observer ≡ value_there (point s now inputs) (observed s v symbolic)
  pub ticks : (k : ℕ) → k < length s.tick_clocks → slice_index_or next.ticked k false ≡ next_tick s v symbolic k
  pub memories : (m : ℕ) → m < length s.memories → slice_index_or next.kept m (Flag false) ≡ at_point (point s now inputs) (updated s v symbolic m)

-- Two valuations differ only in the truth of tests that are absent: they have the same ticks, the same bits of control memories
-- and inputs, and the same truth of each test that is present at the one.
abbrev pub bit_count : List ℕ → Kind → ℕ
bit_count labels kind.Bool = 1
bit_count labels kind.Int = 0
bit_count labels (kind.Labels i) = bits_for (slice_index_or labels i 0)

pub record AreAlike (s : System) (v w : Valuation) (symbolic : List (Option Reading)) : Type 0 where
  pub ticks : (k : ℕ) → k < length s.ticks → v.ticked (slice_index_or s.ticks k Nothing) ≡ w.ticked (slice_index_or s.ticks k Nothing)
  pub memories : (m b : ℕ) → m < length s.memories → b < bit_count s.labels (kind_at (memory_kinds s) m)
      → v.kept (slice_index_or (memory_places s) m []) b ≡ w.kept (slice_index_or (memory_places s) m []) b
  pub inputs : (j b : ℕ) → j < length s.inputs → b < bit_count s.labels (kind_at s.inputs j) → v.input j b ≡ w.input j b
  pub tests : (c : Comparison) (side : Side) → Contains (all_comparisons s) c → IsPresent (tested s v symbolic c) side → v.test c.at side ≡ w.test c.at side

-- `updates(v)`: the forms of the integer memories in order, as many as they have columns.
abbrev pub forms_from : List Kind → (ℕ → Form) → List Form
forms_from [] f = []
forms_from (k ∷ ks) f = cond (is_integer k) (f 0 ∷ forms_from ks (λ m. f (suc m))) (forms_from ks (λ m. f (suc m)))

abbrev pub updates : System → Valuation → List (Option Reading) → List Form
updates s v symbolic = forms_from (memory_kinds s) (λ m. form_of (width s) v.test (updated s v symbolic m))

-- the control value of a type that bits spell; of an integer nothing is said
abbrev pub IsSpelledAs : List ℕ → Kind → (ℕ → Bool) → Reading → Type 0
IsSpelledAs labels kind.Bool bits a = a ≡ Truth (bits 0)
IsSpelledAs labels kind.Int bits a = Unit {0}
IsSpelledAs labels (kind.Labels i) bits a = a ≡ Name (code (bits_for (slice_index_or labels i 0)) bits)

-- `next(v)` is the control state of w.
pub record Leads (s : System) (v : Valuation) (symbolic : List (Option Reading)) (w : Valuation) : Type 0 where
  pub ticks : (k : ℕ) → k < length s.ticks → w.ticked (slice_index_or s.ticks k Nothing) ≡ next_tick s v symbolic k
  pub memories : (m : ℕ) → m < length s.memories → IsSpelledAs s.labels (kind_at (memory_kinds s) m) (w.kept (slice_index_or (memory_places s) m []))
      (updated s v symbolic m)
