-- One text of an instant of a program for all that its expressions may have: whole numbers, or forms at a valuation.
-- (Halbwachs, Caspi, Raymond and Pilaud 1991 for the language, Jeannet 2003 for the control state.)
use Rattle.std.specs.Prelude.{◌≡◌, ℕ, ◌+◌, ℤ, pos, negsuc, Bool, true, false, not, ◌&&◌, cond, nat_eq, nat_le, unwrap_or, List, [], ◌∷◌, ◌++◌, map, length}
use Rattle.std.specs.Prelude.{Option, Some, None as Nothing}
use Rattle.std.specs.List.{Contains}
use Rattle.rv_base.specs.{declared.value.Value.Value, declared.value.Value.TheVariants.Flag, declared.value.Value.TheVariants.Whole}
use Rattle.rv_tree.specs.{declared.tree.Op.Op, Tree.Tree, Tree.Form, Tree.Trees, Tree.AssertionTree, Tree.ProgramTree, Places.Identifier, Places.Sites}
use Rattle.rv_tree.specs.{Places.is_flow, Places.index_of, Delays.Delay, Delays.node_delays, Sites.is_comparison}
use Rattle.rv_tree.specs.declared.tree.Op.TheVariants as op
use Rattle.rv_tree.specs.Tree as tree
use Rattle.rv_types.specs.Instances.{Body, Output, Instance, place, absolute, clock_of, clock_in, clock_of_arguments, output_place, node_of, IsInstance}
use Rattle.rv_types.specs.{declared.typed.Kind.Kind, declared.typed.Clock.Clock, declared.typed.Clock.TheVariants.Base, Kinds.decl_kinds, Types.Scope}
use Rattle.rv_types.specs.{Types.is_constant, Types.kind_of, Constants.whole_in, Constants.value_of, Scopes.node_scope, Scopes.constant_value, Needs.Giver}
use Rattle.rv_types.specs.{Needs.Given, Needs.Of, Needs.Gives, Lists.MemoryAt, Lists.Side, Lists.sides_of, Values.label_count, Variables.is_integer}
use Rattle.rv_types.specs.declared.typed.Kind.TheVariants as kind
use Rattle.rv_meaning.specs.{Meaning.kept_place, Meaning.number, Runs.Instant, Instants.State, Instants.now}
use Rattle.rv_rows.specs.{declared.linear.Row.Row, Rows.Holds, Arithmetic.column_form}
use Rattle.rv_agreement.specs.Valuations.{Valuation, Reading, Tested, is_placed, whole_count, rank, readings, spelled, IsRowOf}
use Rattle.rv_agreement.specs.{Evaluation.Reads, Trees.kind_at}
use Rattle.rv_agreement.specs.Evaluation as flat

-- What an instant finds, by places.
pub record FoundAt (V : Type 0) : Type 0 where
  pub ticked : Option Sites → Bool
  pub kept : Sites → V
  pub given : ℕ → V

-- the place of a site of an instance, the empty one where there is no site
abbrev pub spot : Sites → Option ℕ → Sites
spot path Nothing = []
spot path (Some s) = path ++ s ∷ []

-- whether an operator with this left operand compares integers
abbrev pub is_test : Scope → Op → Tree → Bool
is_test s o a = is_comparison o && is_integer (unwrap_or (kind_of s a) kind.Bool)

-- The place of an operator with this site and left operand: a comparison of integers has its own, and is read from its tests.
abbrev pub operator_place : ProgramTree → Instance → Option ℕ → Op → Tree → Sites
operator_place program i site o a = cond (is_test (node_scope program i.node) o a) (spot i.path site) []

-- the integer of a constant expression
abbrev pub coefficient : ProgramTree → Tree → ℤ
coefficient program e = whole_in (value_of (constant_value program) e)

-- An operator, of which a choice by a tick and a product stand apart.
abbrev pub operation : {A : Type 0} → Op → (choice product : A) → A → A
operation op.Arrow choice product other = choice
operation op.Times choice product other = product
operation o choice product other = other

module _ (V : Type 0) (r : Reads V) (program : ProgramTree) (found : FoundAt V) (cells : Sites → Option V) where
  -- whether a clock is there, main's base clock where there is no flow
  abbrev pub is_there : Option Sites → Bool
  is_there Nothing = true
  is_there (Some q) = flat.is_on V r (cells q)

  module _ (i : Instance) where
    abbrev mutual
      -- what an expression has, of no meaning where it is absent
      pub meant : Tree → V
      meant (tree.Node at site form) = form_meant site form

      pub form_meant : Option ℕ → Form → V
      form_meant site tree.True = r.constant (Flag true)
      form_meant site tree.False = r.constant (Flag false)
      form_meant site (tree.Number n) = r.constant (Whole (pos n))
      form_meant site (tree.Named x) = cond (is_flow i.node x) (flat.held V r (cells (place i x))) (r.constant (constant_value program x))
      form_meant site (tree.Not e) = r.flag (not (r.truth (meant e)))
      form_meant site (tree.Minus e) = r.scale (negsuc 0) (meant e)
      form_meant site (tree.Pre e) = found.kept (kept_place i site e)
      form_meant site (tree.Current e) = cond (is_there (clock_in i Base e)) (meant e) (found.kept (kept_place i site e))
      form_meant site (tree.When e c) = meant e
      form_meant site (tree.Binary o a b) = operation o
          (cond (found.ticked (clock_in i Base (tree.Node 0 site (tree.Binary o a b)))) (meant b) (meant a))
          (cond (is_constant (node_scope program i.node) a) (r.scale (coefficient program a) (meant b)) (r.scale (coefficient program b) (meant a)))
          (r.operate (operator_place program i site o a) o (meant a) (meant b))
      form_meant site (tree.If a b c) = cond (r.truth (meant a)) (meant b) (meant c)
      form_meant site (tree.AtMostOne es) = r.flag (nat_le (trues_meant es) 1)
      form_meant site (tree.Call f args) = flat.held V r (cells (output_place program i (unwrap_or site 0) f 0))

      -- how many are true
      pub trues_meant : Trees → ℕ
      trues_meant tree.None = 0
      trues_meant (tree.More e es) = cond (r.truth (meant e)) 1 0 + trues_meant es

  -- what gives a flow its value
  abbrev pub given_by : Giver → Option V
  given_by (Given j) = Some (found.given j)
  given_by (Of i k (Body e)) = cond (is_there (clock_in i k e)) (Some (meant i e)) Nothing
  given_by (Of i k (Output c j)) = cond (is_there (absolute i (clock_of_arguments i c.args)))
      (Some (flat.held V r (cells (output_place program i c.site c.name j)))) Nothing

-- An instant of a program: each flow has what gives it its value.
abbrev pub IsInstantOf : (V : Type 0) → Reads V → ProgramTree → Identifier → FoundAt V → (Sites → Option V) → Type 0
IsInstantOf V r program main found cells = (q : Sites) (g : Giver) → Gives program main q g → cells q ≡ given_by V r program found cells g

-- A comparison of integers of an instance, with the clock on which it is.
pub record Compared : Type 0 where
  pub at : Sites
  pub clock : Option Sites
  pub operator : Op
  pub within : Instance
  pub left : Tree
  pub right : Tree

abbrev pub own_compared : Op → Compared → List Compared
own_compared o c = cond (is_placed c.at) (cond (nat_eq (length (sides_of o)) 0) [] (c ∷ [])) []

-- Those in an expression that is on a clock. What a memory takes and a call's arguments stand apart. The constant operand of a
-- product counts as its value, so a comparison in it is never present.
module _ (program : ProgramTree) (i : Instance) where
  abbrev mutual
    pub compared : Option Sites → Tree → List Compared
    compared k (tree.Node at site form) = form_compared k site form

    pub form_compared : Option Sites → Option ℕ → Form → List Compared
    form_compared k site tree.True = []
    form_compared k site tree.False = []
    form_compared k site (tree.Number n) = []
    form_compared k site (tree.Named x) = []
    form_compared k site (tree.Not e) = compared k e
    form_compared k site (tree.Minus e) = compared k e
    form_compared k site (tree.Pre e) = []
    form_compared k site (tree.Current e) = []
    form_compared k site (tree.When e c) = compared (absolute i (clock_of i.node c.text)) e
    form_compared k site (tree.Binary o a b) = operation o
        (compared k b ++ compared k a)
        (cond (is_constant (node_scope program i.node) a) (compared k b) (compared k a))
        (own_compared o (record { at = operator_place program i site o a; clock = k; operator = o; within = i; left = a; right = b })
        ++ (compared k a ++ compared k b))
    form_compared k site (tree.If a b c) = compared k a ++ (compared k b ++ compared k c)
    form_compared k site (tree.AtMostOne es) = compared_all k es
    form_compared k site (tree.Call f args) = []

    pub compared_all : Option Sites → Trees → List Compared
    compared_all k tree.None = []
    compared_all k (tree.More e es) = compared k e ++ compared_all k es

-- All comparisons of a program: in what gives a flow, in what a memory takes, in assertions.
pub data IsComparison (program : ProgramTree) (main : Identifier) (c : Compared) : Type 0 where
  in_flow : (q : Sites) (i : Instance) (k : Clock) (e : Tree) → Gives program main q (Of i k (Body e)) → Contains (compared program i (clock_in i k e) e) c
      → IsComparison program main c
  in_memory : (i : Instance) (d : Delay) → IsInstance program main i → Contains (node_delays i.node) d
      → Contains (compared program i (clock_in i Base d.operand) d.operand) c → IsComparison program main c
  in_assertion : (i : Instance) (a : AssertionTree) → IsInstance program main i → Contains i.node.assertions a
      → Contains (compared program i (clock_in i Base a.body) a.body) c → IsComparison program main c

-- The memories in the order of their places say which columns there are.
module _ (program : ProgramTree) (main : Identifier) (memories : List MemoryAt) where
  abbrev pub label_counts : List ℕ
  label_counts = map (λ d. label_count d) program.types

  abbrev pub kinds_of : List Kind
  kinds_of = map (λ m. m.kind) memories

  abbrev pub input_kinds : List Kind
  input_kinds = decl_kinds program (node_of program main).inputs

  abbrev pub columns_of : ℕ
  columns_of = whole_count kinds_of + whole_count input_kinds

  -- what an instant finds at a valuation
  abbrev pub found_by : Valuation → FoundAt Reading
  found_by v = record {
    ticked = v.ticked;
    kept = λ q. spelled label_counts (kind_at kinds_of (index_of (map (λ m. m.place) memories) q)) (v.kept q)
        (column_form columns_of (rank kinds_of (index_of (map (λ m. m.place) memories) q)));
    given = λ j. spelled label_counts (kind_at input_kinds j) (v.input j) (column_form columns_of (whole_count kinds_of + rank input_kinds j));
  }

  -- The symbolic instant of a program at a valuation.
  abbrev pub IsSymbolicOf : Valuation → (Sites → Option Reading) → Type 0
  IsSymbolicOf v cells = IsInstantOf Reading (readings columns_of v.test) program main (found_by v) cells

  -- a comparison there
  abbrev pub tested_in : Valuation → (Sites → Option Reading) → Compared → Tested
  tested_in v cells c = record {
    at = c.at;
    operator = c.operator;
    there = is_there Reading (readings columns_of v.test) program (found_by v) cells c.clock;
    left = meant Reading (readings columns_of v.test) program (found_by v) cells c.within c.left;
    right = meant Reading (readings columns_of v.test) program (found_by v) cells c.within c.right;
  }

  -- a whole point meets every row of `rows(v)`
  abbrev pub AgreesWith : Valuation → (Sites → Option Reading) → List ℤ → Type 0
  AgreesWith v cells x = (c : Compared) (side : Side) (r : Row) → IsComparison program main c → IsRowOf columns_of v.test (tested_in v cells c) side r
      → Holds r x

-- What the instants of a program over the integers find and have, as the state and the row that they are said of.
abbrev pub found_of : State → (ℕ → Value) → FoundAt Value
found_of state inputs = record { ticked = state.ticked; kept = state.kept; given = inputs }

-- In each product the constant operand has its value, which holds where types do.
module _ (program : ProgramTree) (state : State) (row : Instant) (i : Instance) where
  abbrev mutual
    pub HasProducts : Tree → Type 0
    HasProducts (tree.Node at site form) = FormHasProducts site form

    pub FormHasProducts : Option ℕ → Form → Type 0
    FormHasProducts site tree.True = Unit {0}
    FormHasProducts site tree.False = Unit {0}
    FormHasProducts site (tree.Number n) = Unit {0}
    FormHasProducts site (tree.Named x) = Unit {0}
    FormHasProducts site (tree.Not e) = HasProducts e
    FormHasProducts site (tree.Minus e) = HasProducts e
    FormHasProducts site (tree.Pre e) = Unit {0}
    FormHasProducts site (tree.Current e) = HasProducts e
    FormHasProducts site (tree.When e c) = HasProducts e
    FormHasProducts site (tree.Binary o a b) = HasProducts a × HasProducts b
        × (o ≡ op.Times → is_constant (node_scope program i.node) a ≡ true → number (now program state row i a) ≡ coefficient program a)
        × (o ≡ op.Times → is_constant (node_scope program i.node) a ≡ false → number (now program state row i b) ≡ coefficient program b)
    FormHasProducts site (tree.If a b c) = HasProducts a × HasProducts b × HasProducts c
    FormHasProducts site (tree.AtMostOne es) = AllHaveProducts es
    FormHasProducts site (tree.Call f args) = Unit {0}

    pub AllHaveProducts : Trees → Type 0
    AllHaveProducts tree.None = Unit {0}
    AllHaveProducts (tree.More e es) = HasProducts e × AllHaveProducts es
