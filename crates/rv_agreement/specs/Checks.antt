-- Tests that a flat system keeps in its type: they say that it is well formed, where its memories are inlined.
use Rattle.std.specs.Prelude.{◌≡◌, ℕ, zero, suc, ◌+◌, ◌<◌, Bool, true, false, not, ◌&&◌, ◌||◌, cond, nat_eq, nat_lt, List, [], ◌∷◌, length, Option, Some}
use Rattle.std.specs.Prelude.{IsTrue, slice_get, slice_index_or, None as Nothing}
use Rattle.rv_base.specs.declared.value.Value.{Value}
use Rattle.rv_base.specs.declared.value.Value.TheVariants.{Flag, Label, Whole}
use Rattle.rv_tree.specs.{declared.tree.Op.Op, Places.Sites}
use Rattle.rv_tree.specs.declared.tree.Op.TheVariants as op
use Rattle.rv_types.specs.{declared.typed.Kind.Kind, Lists.sides_of, Types.same_kind, Variables.is_integer}
use Rattle.rv_types.specs.declared.typed.Kind.TheVariants as kind
use Rattle.rv_agreement.specs.Trees.{FlatTree, Node, TreeForm, FlatTrees, Constant, Flow, Memory, Ticked, Input, Not, Binary, Scale, If, AtMostOne, When}
use Rattle.rv_agreement.specs.Trees.{Current, None, More, Item, nth_item, Kept, System, memory_items, memory_kinds, memory_places, kind_at}
use Rattle.rv_agreement.specs.{Valuations.is_placed, Agreement.AreApart}

abbrev pub same_sites : Sites → Sites → Bool
same_sites [] [] = true
same_sites [] (q ∷ qs) = false
same_sites (p ∷ ps) [] = false
same_sites (p ∷ ps) (q ∷ qs) = nat_eq p q && same_sites ps qs

abbrev pub same_flow : Option Sites → Option Sites → Bool
same_flow Nothing Nothing = true
same_flow Nothing (Some q) = false
same_flow (Some p) Nothing = false
same_flow (Some p) (Some q) = same_sites p q

-- two clocks by the numbers of their flows
abbrev pub same_clock : Option ℕ → Option ℕ → Bool
same_clock Nothing Nothing = true
same_clock Nothing (Some n) = false
same_clock (Some k) Nothing = false
same_clock (Some k) (Some n) = nat_eq k n

module _ (K : Type 0) (same : K → K → Bool) where
  abbrev pub is_among : K → List K → Bool
  is_among k [] = false
  is_among k (j ∷ js) = same j k || is_among k js

  -- no two are the same
  abbrev pub are_distinct : List K → Bool
  are_distinct [] = true
  are_distinct (k ∷ ks) = not (is_among k ks) && are_distinct ks

-- the enumerations from a number on, so many
abbrev pub enumerations : ℕ → ℕ → List Kind
enumerations i zero = []
enumerations i (suc n) = kind.Labels i ∷ enumerations (i + 1) n

-- all types, where each enumeration has so many labels
abbrev pub all_kinds : List ℕ → List Kind
all_kinds labels = kind.Bool ∷ kind.Int ∷ enumerations 0 (length labels)

abbrev pub any_of : (Kind → Bool) → List Kind → Bool
any_of test [] = false
any_of test (k ∷ ks) = test k || any_of test ks

-- whether there is one, of this type
abbrev pub is_of : Kind → Option Kind → Bool
is_of k Nothing = false
is_of k (Some j) = same_kind j k

-- the value of a constant is of a type
abbrev pub constant_fits : List ℕ → Kind → Value → Bool
constant_fits labels kind.Bool (Flag b) = true
constant_fits labels kind.Int (Whole z) = true
constant_fits labels (kind.Labels i) (Label l) = nat_lt l (slice_index_or labels i 0)
constant_fits labels _ _ = false

-- An operator that gives a type: between operands of the type of the first answer, or, for equality, of one type.
abbrev pub gives : Op → Kind → Bool
gives op.Plus k = same_kind k kind.Int
gives op.Minus k = same_kind k kind.Int
gives op.Arrow k = false
gives op.Times k = false
gives op.Slash k = false
gives op.Div k = false
gives op.Mod k = false
gives _ k = same_kind k kind.Bool

-- the types of operands that an operator may have
abbrev pub operands : List ℕ → Op → List Kind
operands labels op.Implies = kind.Bool ∷ []
operands labels op.Or = kind.Bool ∷ []
operands labels op.Xor = kind.Bool ∷ []
operands labels op.And = kind.Bool ∷ []
operands labels op.Equal = all_kinds labels
operands labels op.Differs = all_kinds labels
operands labels _ = kind.Int ∷ []

-- a comparison has a place exactly where its operands are integers
abbrev pub is_placed_for : Sites → Op → Kind → Bool
is_placed_for at o i = nat_eq (length (sides_of o)) 0 || cond (is_placed at) (is_integer i) (not (is_integer i))

module _ (s : System) where
  -- the flow of a clock is among the first, and Boolean
  abbrev pub clock_fits : ℕ → Option ℕ → Bool
  clock_fits before Nothing = true
  clock_fits before (Some n) = nat_lt n before && is_of kind.Bool (slice_get s.kinds n)

  abbrev mutual
    -- an expression of the type j on the clock k, over the first flows, as many as are said
    pub fits : ℕ → Option ℕ → Kind → FlatTree → Bool
    fits before k j (Node at form) = form_fits before k j at form

    pub form_fits : ℕ → Option ℕ → Kind → Sites → TreeForm → Bool
    form_fits before k j at (Constant v) = constant_fits s.labels j v
    form_fits before k j at (Flow n) = nat_lt n before && (is_of j (slice_get s.kinds n) && same_clock k (nth_item s.flows n).clock)
    form_fits before k j at (Memory m) = is_of j (slice_get (memory_kinds s) m)
    form_fits before k j at (Ticked t) = same_kind j kind.Bool && nat_lt t (length s.ticks)
    form_fits before k j at (Input i) = is_of j (slice_get s.inputs i)
    form_fits before k j at (Not e) = same_kind j kind.Bool && fits before k kind.Bool e
    form_fits before k j at (Binary o a b) = gives o j && any_of (λ i. is_placed_for at o i && (fits before k i a && fits before k i b)) (operands s.labels o)
    form_fits before k j at (Scale n e) = same_kind j kind.Int && fits before k kind.Int e
    form_fits before k j at (If c a b) = fits before k kind.Bool c && (fits before k j a && fits before k j b)
    form_fits before k j at (AtMostOne es) = same_kind j kind.Bool && all_fit before k es
    form_fits before k j at (When c e) = same_clock k (Some c) && (clock_fits before (Some c) && fits before (nth_item s.flows c).clock j e)
    form_fits before k j at (Current m i e) = is_of j (slice_get (memory_kinds s) m) && (clock_fits before i && fits before i j e)

    pub all_fit : ℕ → Option ℕ → FlatTrees → Bool
    all_fit before k None = true
    all_fit before k (More e es) = fits before k kind.Bool e && all_fit before k es

  abbrev mutual
    -- what each `current` shows is its memory
    pub IsShared : FlatTree → Type 0
    IsShared (Node at form) = FormIsShared form

    pub FormIsShared : TreeForm → Type 0
    FormIsShared (Constant c) = Unit {0}
    FormIsShared (Flow n) = Unit {0}
    FormIsShared (Memory m) = Unit {0}
    FormIsShared (Ticked t) = Unit {0}
    FormIsShared (Input j) = Unit {0}
    FormIsShared (Not e) = IsShared e
    FormIsShared (Binary o a b) = IsShared a × IsShared b
    FormIsShared (Scale n e) = IsShared e
    FormIsShared (If c a b) = IsShared c × IsShared a × IsShared b
    FormIsShared (AtMostOne es) = AreShared es
    FormIsShared (When c e) = IsShared e
    FormIsShared (Current m j e) = (nth_item (memory_items s) m ≡ record { clock = j; body = e }) × IsShared e

    pub AreShared : FlatTrees → Type 0
    AreShared None = Unit {0}
    AreShared (More e es) = IsShared e × AreShared es

  -- an item of a type
  abbrev pub item_fits : ℕ → Kind → Item → Bool
  item_fits before j x = clock_fits before x.clock && fits before x.clock j x.body

  -- flows from a number on, each over those before it
  abbrev pub flows_fit : ℕ → List Item → Bool
  flows_fit before [] = true
  flows_fit before (x ∷ xs) = item_fits before (kind_at s.kinds before) x && flows_fit (before + 1) xs

  -- memories over all flows
  abbrev pub memories_fit : List Kept → Bool
  memories_fit [] = true
  memories_fit (m ∷ ms) = item_fits (length s.flows) m.kind m.item && memories_fit ms

  -- assertions over all flows
  abbrev pub assertions_fit : List Item → Bool
  assertions_fit [] = true
  assertions_fit (x ∷ xs) = item_fits (length s.flows) kind.Bool x && assertions_fit xs

  abbrev pub clocks_fit : List (Option ℕ) → Bool
  clocks_fit [] = true
  clocks_fit (k ∷ ks) = clock_fits (length s.flows) k && clocks_fit ks

-- What a flat system keeps.
pub record IsChecked (s : System) : Type 0 where
  pub kinds : length s.kinds ≡ length s.flows
  pub flows : IsTrue (flows_fit s 0 s.flows)
  pub memories : IsTrue (memories_fit s s.memories)
  pub assertions : IsTrue (assertions_fit s s.assertions)
  pub observer : IsTrue (is_of kind.Bool (slice_get s.kinds s.observer))
  pub ticks : length s.tick_clocks ≡ length s.ticks
  pub tick_clocks : IsTrue (clocks_fit s s.tick_clocks)
  pub tick_places : IsTrue (are_distinct (Option Sites) same_flow s.ticks)
  pub memory_places : IsTrue (are_distinct Sites same_sites (memory_places s))
  pub comparisons : AreApart s

-- What inlining the memories gives: each item shows its memories.
pub record IsInlined (s : System) : Type 0 where
  pub flows : (k : ℕ) → k < length s.flows → IsShared s (nth_item s.flows k).body
  pub memories : (m : ℕ) → m < length s.memories → IsShared s (nth_item (memory_items s) m).body
  pub assertions : (k : ℕ) → k < length s.assertions → IsShared s (nth_item s.assertions k).body
