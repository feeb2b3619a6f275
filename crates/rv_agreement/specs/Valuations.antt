-- Valuations of the control and of the order tests of a flat system, what its flows have at one, and the points that agree.
-- (Jeannet 2003 for the control state.)
use Rattle.std.specs.Prelude.{◌≡◌, ℕ, zero, suc, ◌+◌, ◌<◌, ℤ, pos, Bool, true, false, not, ◌&&◌, ◌||◌, cond, nat_eq, List, [], ◌∷◌, ◌++◌, flat_map, length}
use Rattle.std.specs.Prelude.{Option, slice_index_or, None as Nothing}
use Rattle.std.specs.List.{Contains}
use Rattle.rv_base.specs.declared.value.Value.{Value}
use Rattle.rv_base.specs.declared.value.Value.TheVariants.{Flag, Label, Whole}
use Rattle.rv_tree.specs.{declared.tree.Op.Op, Places.Sites}
use Rattle.rv_tree.specs.declared.tree.Op.TheVariants as op
use Rattle.rv_types.specs.{declared.typed.Kind.Kind, Lists.Side, Lists.AtMost, Lists.AtLeast, Lists.sides_of, Variables.is_integer, Variables.bits_for}
use Rattle.rv_types.specs.declared.typed.Kind.TheVariants as kind
use Rattle.rv_meaning.specs.{Meaning.number, Codes.code}
use Rattle.rv_rows.specs.Arithmetic.{constant_form, column_form, form_sum, form_times, form_difference, test_row}
use Rattle.rv_rows.specs.{declared.linear.Row.Row, declared.linear.Form.Form, Rows.Holds, Tight.IsTightened}
use Rattle.rv_rows.specs.Forms as forms
use Rattle.rv_agreement.specs.Trees.{FlatTree, Node, TreeForm, FlatTrees, Constant, Flow, Memory, Ticked, Input, Not, Binary, Scale, If, AtMostOne, When}
use Rattle.rv_agreement.specs.Trees.{Current, None, More, Item, nth_item, System, memory_items, memory_kinds, memory_places, kind_at}
use Rattle.rv_agreement.specs.Evaluation.{Reads, Found, IsInstant, is_there, value, after, is_met, nth}

-- A truth value, freely, for each diagram variable: a tick by the place of its clock's flow (none for main's), a bit of a
-- memory by its place, a bit of an input by its number, an order test by the place of its comparison.
pub record Valuation : Type 0 where
  pub ticked : Option Sites → Bool
  pub kept : Sites → ℕ → Bool
  pub input : ℕ → ℕ → Bool
  pub test : Sites → Side → Bool

-- What a flow has at a valuation where it is present: a control value, or a form over the columns.
pub data Reading : Type 0 where
  Truth : Bool → Reading
  Name : ℕ → Reading
  Linear : Form → Reading

-- what it is at a whole point
abbrev pub at_point : List ℤ → Reading → Value
at_point x (Truth b) = Flag b
at_point x (Name l) = Label l
at_point x (Linear f) = Whole (forms.value f x)

abbrev pub holds_true : Reading → Bool
holds_true (Truth b) = b
holds_true _ = false

abbrev pub is_linear : Reading → Bool
is_linear (Linear f) = true
is_linear _ = false

-- The columns: the integer memories in order, then the integer inputs.

-- how many types are of integers, in all and before the one with a number
abbrev pub whole_count : List Kind → ℕ
whole_count [] = 0
whole_count (k ∷ ks) = cond (is_integer k) 1 0 + whole_count ks

abbrev pub rank : List Kind → ℕ → ℕ
rank [] m = 0
rank (k ∷ ks) zero = 0
rank (k ∷ ks) (suc m) = cond (is_integer k) 1 0 + rank ks m

abbrev pub width : System → ℕ
width s = whole_count (memory_kinds s) + whole_count s.inputs

-- the integers among some values of these types
abbrev pub wholes : List Kind → List Value → List ℤ
wholes [] vs = []
wholes (k ∷ ks) [] = cond (is_integer k) (pos 0 ∷ wholes ks []) (wholes ks [])
wholes (k ∷ ks) (v ∷ vs) = cond (is_integer k) (number v ∷ wholes ks vs) (wholes ks vs)

-- The readings at a valuation, where there are so many columns.
module _ (columns : ℕ) (test : Sites → Side → Bool) where
  abbrev pub form_of : Reading → Form
  form_of (Linear f) = f
  form_of _ = constant_form columns (pos 0)

  -- equality: of integers both tests together, of control values as they are
  abbrev pub is_same : Sites → Reading → Reading → Bool
  is_same at (Truth a) (Truth b) = cond a b (not b)
  is_same at (Name a) (Name b) = nat_eq a b
  is_same at (Linear f) (Linear g) = test at AtMost && test at AtLeast
  is_same at _ _ = false

  -- An operator between two readings. A comparison of integers is read from its tests. (`*` stands as a scaling, and `->` as
  -- a choice by a tick, in a flat system.)
  abbrev pub operated : Sites → Op → Reading → Reading → Reading
  operated at op.Arrow a b = b
  operated at op.Implies a b = Truth (not (holds_true a) || holds_true b)
  operated at op.Or a b = Truth (holds_true a || holds_true b)
  operated at op.Xor a b = Truth (cond (holds_true a) (not (holds_true b)) (holds_true b))
  operated at op.And a b = Truth (holds_true a && holds_true b)
  operated at op.Equal a b = Truth (is_same at a b)
  operated at op.Differs a b = Truth (not (is_same at a b))
  operated at op.Less a b = Truth (not (test at AtLeast))
  operated at op.AtMost a b = Truth (test at AtMost)
  operated at op.Greater a b = Truth (not (test at AtMost))
  operated at op.AtLeast a b = Truth (test at AtLeast)
  operated at op.Plus a b = Linear (form_sum (form_of a) (form_of b))
  operated at op.Minus a b = Linear (form_difference (form_of a) (form_of b))
  operated at op.Times a b = Linear (constant_form columns (pos 0))
  operated at op.Slash a b = Linear (constant_form columns (pos 0))
  operated at op.Div a b = Linear (constant_form columns (pos 0))
  operated at op.Mod a b = Linear (constant_form columns (pos 0))

  abbrev pub constant_reading : Value → Reading
  constant_reading (Flag b) = Truth b
  constant_reading (Label l) = Name l
  constant_reading (Whole z) = Linear (constant_form columns z)

  abbrev pub readings : Reads Reading
  readings = record {
    constant = constant_reading;
    flag = λ b. Truth b;
    truth = holds_true;
    operate = operated;
    scale = λ n a. Linear (form_times n (form_of a));
  }

-- what bits spell, or the form of a column
abbrev pub spelled : List ℕ → Kind → (ℕ → Bool) → Form → Reading
spelled labels kind.Bool bits column = Truth (bits 0)
spelled labels kind.Int bits column = Linear column
spelled labels (kind.Labels i) bits column = Name (code (bits_for (slice_index_or labels i 0)) bits)

-- What an instant finds at a valuation: a memory or input has the control value that its bits spell, or is its column.
abbrev pub found_at : System → Valuation → Found Reading
found_at s v = record {
  ticked = λ k. v.ticked (slice_index_or s.ticks k Nothing);
  kept = λ m. spelled s.labels (kind_at (memory_kinds s) m) (v.kept (slice_index_or (memory_places s) m [])) (column_form (width s) (rank (memory_kinds s) m));
  given = λ j. spelled s.labels (kind_at s.inputs j) (v.input j) (column_form (width s) (whole_count (memory_kinds s) + rank s.inputs j));
}

abbrev pub reads_at : System → Valuation → Reads Reading
reads_at s v = readings (width s) v.test

-- The symbolic instant at a valuation: each flow is absent, or has a control value or a form, so that the equations hold.
abbrev pub IsSymbolic : System → Valuation → List (Option Reading) → Type 0
IsSymbolic s v row = IsInstant Reading (reads_at s v) s (found_at s v) row

-- Comparisons of integers, each with the clock on which it is.

pub record Comparison : Type 0 where
  pub at : Sites
  pub clock : Option ℕ
  pub operator : Op
  pub left : FlatTree
  pub right : FlatTree

abbrev pub is_placed : Sites → Bool
is_placed [] = false
is_placed (s ∷ ss) = true

-- an operator by itself: a comparison of integers has a place, and one of control values has none
abbrev pub own : Op → Comparison → List Comparison
own o c = cond (is_placed c.at) (cond (nat_eq (length (sides_of o)) 0) [] (c ∷ [])) []

-- Those in an expression that is on a clock. What `current` shows stands in its memory.
module _ (flows : List Item) where
  abbrev mutual
    pub comparisons : Option ℕ → FlatTree → List Comparison
    comparisons k (Node at form) = form_comparisons k at form

    pub form_comparisons : Option ℕ → Sites → TreeForm → List Comparison
    form_comparisons k at (Constant c) = []
    form_comparisons k at (Flow n) = []
    form_comparisons k at (Memory m) = []
    form_comparisons k at (Ticked t) = []
    form_comparisons k at (Input j) = []
    form_comparisons k at (Not e) = comparisons k e
    form_comparisons k at (Binary o a b) = own o (record { at = at; clock = k; operator = o; left = a; right = b }) ++ (comparisons k a ++ comparisons k b)
    form_comparisons k at (Scale n e) = comparisons k e
    form_comparisons k at (If c a b) = comparisons k c ++ (comparisons k a ++ comparisons k b)
    form_comparisons k at (AtMostOne es) = comparisons_of k es
    form_comparisons k at (When c e) = comparisons (nth_item flows c).clock e
    form_comparisons k at (Current m j e) = []

    pub comparisons_of : Option ℕ → FlatTrees → List Comparison
    comparisons_of k None = []
    comparisons_of k (More e es) = comparisons k e ++ comparisons_of k es

  abbrev pub item_comparisons : Item → List Comparison
  item_comparisons x = comparisons x.clock x.body

-- all of a flat system
abbrev pub all_items : System → List Item
all_items s = s.flows ++ (memory_items s ++ s.assertions)

abbrev pub all_comparisons : System → List Comparison
all_comparisons s = flat_map (item_comparisons s.flows) (all_items s)

-- whether a comparison of these two is one of integers: equality may also be one of control values
abbrev pub is_of_integers : Op → Reading → Reading → Bool
is_of_integers op.Equal a b = is_linear a && is_linear b
is_of_integers op.Differs a b = is_linear a && is_linear b
is_of_integers _ a b = true

-- A comparison at a valuation: its place, its operator, whether its clock is there, and what its operands have. The rows below
-- are over these, so they are one text for a program and for a flat system.
pub record Tested : Type 0 where
  pub at : Sites
  pub operator : Op
  pub there : Bool
  pub left : Reading
  pub right : Reading

-- the clock of the comparison is there, it is one of integers, and the test is one of its tests
pub record IsPresent (t : Tested) (side : Side) : Type 0 where
  pub there : t.there ≡ true
  pub whole : is_of_integers t.operator t.left t.right ≡ true
  pub side_is : Contains (sides_of t.operator) side

-- the form that a test of a comparison of f and g asks to be at most 0
abbrev pub side_form : Side → Form → Form → Form
side_form AtMost f g = form_difference f g
side_form AtLeast f g = form_difference g f

module _ (columns : ℕ) (test : Sites → Side → Bool) where
  -- the form of a test
  abbrev pub tested_form : Tested → Side → Form
  tested_form t side = side_form side (form_of columns test t.left) (form_of columns test t.right)

  -- `rows(v)`: the tightened row of a test whose comparison is present
  abbrev pub IsRowOf : Tested → Side → Row → Type 0
  IsRowOf t side r = IsPresent t side × IsTightened (test_row (test t.at side) (tested_form t side)) r

module _ (s : System) (v : Valuation) (row : List (Option Reading)) where
  -- what an expression has at the valuation
  abbrev pub read : FlatTree → Reading
  read e = value Reading (reads_at s v) (found_at s v) row e

  abbrev pub tested : Comparison → Tested
  tested c = record { at = c.at; operator = c.operator; there = is_there Reading (reads_at s v) row c.clock; left = read c.left; right = read c.right }

  -- a whole point meets every row of `rows(v)`
  abbrev pub Agrees : List ℤ → Type 0
  Agrees x = (c : Comparison) (side : Side) (r : Row) → Contains (all_comparisons s) c → IsRowOf (width s) v.test (tested c) side r → Holds r x

  -- `updates(v)` and the memories of `next(v)`: what each memory has after the instant, a form or a control value
  abbrev pub updated : ℕ → Reading
  updated m = after Reading (reads_at s v) (found_at s v) row (nth_item (memory_items s) m) m

  -- the ticks of `next(v)`
  abbrev pub next_tick : ℕ → Bool
  next_tick k = v.ticked (slice_index_or s.ticks k Nothing) || is_there Reading (reads_at s v) row (slice_index_or s.tick_clocks k Nothing)

  -- every assertion is true or absent
  abbrev pub AreMet : Type 0
  AreMet = (k : ℕ) → k < length s.assertions → is_met Reading (reads_at s v) (found_at s v) row (nth_item s.assertions k) ≡ true

  -- what the observer has
  abbrev pub observed : Option Reading
  observed = nth Reading (reads_at s v) row s.observer

-- the code names a label
abbrev pub IsCodedAs : List ℕ → Kind → (ℕ → Bool) → Type 0
IsCodedAs labels kind.Bool bits = Unit {0}
IsCodedAs labels kind.Int bits = Unit {0}
IsCodedAs labels (kind.Labels i) bits = code (bits_for (slice_index_or labels i 0)) bits < slice_index_or labels i 0

-- every code names a label
pub record IsCoded (s : System) (v : Valuation) : Type 0 where
  pub memories : (m : ℕ) → m < length s.memories → IsCodedAs s.labels (kind_at (memory_kinds s) m) (v.kept (slice_index_or (memory_places s) m []))
  pub inputs : (j : ℕ) → j < length s.inputs → IsCodedAs s.labels (kind_at s.inputs j) (v.input j)

-- A valuation is allowed where its codes name labels and every assertion is true or absent.
abbrev pub IsAllowed : System → Valuation → List (Option Reading) → Type 0
IsAllowed s v row = IsCoded s v × AreMet s v row
