-- The comparisons of integers in nodes, and those that they are in instances.
use Rattle.std.specs.Prelude.{ℕ, Bool, ◌&&◌, cond, List, [], ◌∷◌, ◌++◌, map, flat_map, Option, Some, slice_index_or, None as Nothing}
use Rattle.rv_tree.specs.{declared.tree.Op.Op, Tree.Tree, Tree.NodeTree, Tree.ProgramTree, Places.Sites, Sites.is_comparison}
use Rattle.rv_types.specs.{Heads.head_kind, Lists.ComparisonAt, Scopes.node_scope, Types.Scope, Variables.is_integer}
use Rattle.rv_agreement.specs.Programs.{is_test}
use Rattle.rv_instances.specs.{declared.answer.Instance.Instance as Numbered, Expanded.no_instance, Layouts.path_at, Timed.ToldOperator, Timed.operators_told}
use Rattle.rv_flatten.specs.declared.comparisons.Tested.{Tested}

-- whether an operator with this left operand compares integers, by what the head of the operand tells
abbrev pub is_told_test : Scope → Op → Tree → Bool
is_told_test s o a = is_comparison o && is_integer (head_kind s a)

-- an operator, where it has a site and compares integers, by which of the operators with their left operands do so
module _ (compares : Op → Tree → Bool) where
  abbrev pub own_tests_by : Option ℕ → Op → Tree → List Tested
  own_tests_by Nothing o a = []
  own_tests_by (Some k) o a = cond (compares o a) (record { site = k; operator = o } ∷ []) []

  abbrev pub own_test : ToldOperator → List Tested
  own_test t = own_tests_by t.site t.operator t.left

-- the comparisons of integers of a node of a program
abbrev pub tests_in : ProgramTree → NodeTree → List Tested
tests_in p n = flat_map (own_test (is_test (node_scope p n))) (operators_told n)

-- the same by what the heads of the left operands tell
abbrev pub told_tests_in : ProgramTree → NodeTree → List Tested
told_tests_in p n = flat_map (own_test (is_told_test (node_scope p n))) (operators_told n)

-- a comparison in the instance with a path
abbrev pub compared_at : Sites → Tested → ComparisonAt
compared_at path t = record { place = path ++ t.site ∷ []; operator = t.operator }

-- those of the instance with a number, by those of each node
abbrev pub compared_in : List (List Tested) → List Numbered → ℕ → List ComparisonAt
compared_in tested instances m = map (compared_at (path_at instances m)) (slice_index_or tested (slice_index_or instances m no_instance).node [])
