-- The integers of a program's literals and constants as they are gathered, and what stands beside them.
use Rattle.std.specs.Prelude.{ℕ, ℤ, pos, ◌+ℤ◌, ◌-ℤ◌, ◌<ℤ◌, neg_ℤ, nat_abs, ◌^◌, ◌<◌, ◌≤◌, Bool, false, cond, List, [], ◌∷◌, ◌++◌, length, slice_index_or}
use Rattle.std.specs.Prelude.{flat_map}
use Rattle.std.specs.{List.Contains, Ordering.int_eq}
use Rattle.rv_base.specs.{declared.value.Value.Value, declared.value.Value.TheVariants.Whole}
use Rattle.rv_tree.specs.Tree.{Tree, Node, Form, True, False, Number, Named, Not, Minus, Pre, Current, When, Binary, If, AtMostOne, Call, Trees, None, More}
use Rattle.rv_tree.specs.Tree.{EquationTree, AssertionTree, ConstantTree, NodeTree, ProgramTree}
use Rattle.rv_types.specs.{Constants.whole_in, Scopes.constant_values}

abbrev mutual
  -- the literals of an expression
  pub literals : Tree → List ℕ
  literals (Node at site form) = form_literals form

  pub form_literals : Form → List ℕ
  form_literals True = []
  form_literals False = []
  form_literals (Number v) = v ∷ []
  form_literals (Named x) = []
  form_literals (Not e) = literals e
  form_literals (Minus e) = literals e
  form_literals (Pre e) = literals e
  form_literals (Current e) = literals e
  form_literals (When e c) = literals e
  form_literals (Binary o a b) = literals a ++ literals b
  form_literals (If a b c) = literals a ++ (literals b ++ literals c)
  form_literals (AtMostOne es) = literals_of_all es
  form_literals (Call f es) = literals_of_all es

  pub literals_of_all : Trees → List ℕ
  literals_of_all None = []
  literals_of_all (More e es) = literals e ++ literals_of_all es

-- those of some equations, assertions, nodes and constants
abbrev pub equation_literals : List EquationTree → List ℕ
equation_literals qs = flat_map (λ q. literals q.right) qs

abbrev pub assertion_literals : List AssertionTree → List ℕ
assertion_literals as' = flat_map (λ a. literals a.body) as'

abbrev pub node_literals : NodeTree → List ℕ
node_literals n = equation_literals n.equations ++ assertion_literals n.assertions

abbrev pub constant_literals : List ConstantTree → List ℕ
constant_literals cs = flat_map (λ c. literals c.body) cs

-- those of a program
abbrev pub program_literals : ProgramTree → List ℕ
program_literals p = constant_literals p.constants ++ flat_map node_literals p.nodes

-- an integer of little more than 64 bits
abbrev pub IsSmall : ℤ → Type 0
IsSmall z = nat_abs z ≤ 2 ^ 64

-- where it is an integer
abbrev pub IsSmallValue : Value → Type 0
IsSmallValue v = IsSmall (whole_in v)

-- what stands beside a number, and the negatives of that
abbrev pub around : ℤ → List ℤ
around z = (z -ℤ pos 1) ∷ z ∷ (z +ℤ pos 1) ∷ neg_ℤ (z -ℤ pos 1) ∷ neg_ℤ z ∷ neg_ℤ (z +ℤ pos 1) ∷ []

abbrev pub around_literal : ℕ → List ℤ
around_literal n = around (pos n)

-- a value, where it is an integer
abbrev pub around_value : Value → List ℤ
around_value (Whole z) = around z
around_value _ = []

-- all of a program
abbrev pub program_numbers : ProgramTree → List ℤ
program_numbers p = flat_map around_literal (program_literals p) ++ flat_map around_value (constant_values p)

-- whether a number is the last of a list
abbrev pub is_last : List ℤ → ℤ → Bool
is_last [] z = false
is_last (y ∷ []) z = int_eq y z
is_last (y ∷ x ∷ xs) z = is_last (x ∷ xs) z

-- a list with a number more, unless it is the last
abbrev pub with_new : List ℤ → ℤ → List ℤ
with_new ys z = cond (is_last ys z) ys (ys ++ z ∷ [])

-- the same numbers in rising order, each once
pub record IsDistinctOf (xs ys : List ℤ) : Type 0 where
  pub rising : (j k : ℕ) → j < k → k < length ys → slice_index_or ys j (pos 0) <ℤ slice_index_or ys k (pos 0)
  pub all : (y : ℤ) → Contains xs y → Contains ys y
  pub only : (y : ℤ) → Contains ys y → Contains xs y
