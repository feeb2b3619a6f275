-- How many expressions stand in a node, and how many integer memories and inputs it has; the instances of a program and the
-- expressions of all of them.
use Rattle.std.specs.Prelude.{ℕ, ◌+◌, cond, length}
use Rattle.rv_tree.specs.Tree.{Tree, Node, Form, True, False, Number, Named, Not, Minus, Pre, Current, When, Binary, If, AtMostOne, Call, Trees, None, More}
use Rattle.rv_tree.specs.Tree.{NodeTree, ProgramTree}
use Rattle.rv_tree.specs.Places.{Identifier}
use Rattle.rv_types.specs.Variables.{total, is_integer, memories, over_instances}
use Rattle.rv_types.specs.{Kinds.decl_kinds, Values.operand_kind, Instances.all_instances}

-- How many expressions stand in one, itself included.
abbrev mutual
  pub size : Tree → ℕ
  size (Node at site form) = 1 + form_size form

  pub form_size : Form → ℕ
  form_size True = 0
  form_size False = 0
  form_size (Number n) = 0
  form_size (Named x) = 0
  form_size (Not e) = size e
  form_size (Minus e) = size e
  form_size (Pre e) = size e
  form_size (Current e) = size e
  form_size (When e c) = size e
  form_size (Binary o a b) = size a + size b
  form_size (If a b c) = size a + (size b + size c)
  form_size (AtMostOne es) = size_of_all es
  form_size (Call f es) = size_of_all es

  pub size_of_all : Trees → ℕ
  size_of_all None = 0
  size_of_all (More e es) = size e + size_of_all es

-- the expressions of a node, in its right sides and assertions
abbrev pub node_size : NodeTree → ℕ
node_size n = total (λ q. size q.right) n.equations + total (λ a. size a.body) n.assertions

-- the integer memories of a node
abbrev pub integer_memories : ProgramTree → NodeTree → ℕ
integer_memories p n = total (λ d. cond (is_integer (operand_kind p n d.operand)) 1 0) (memories n)

-- the integer inputs of a node
abbrev pub integer_inputs : ProgramTree → NodeTree → ℕ
integer_inputs p n = total (λ k. cond (is_integer k) 1 0) (decl_kinds p n.inputs)

-- The quantities of a program: sums over its instances.
module _ (p : ProgramTree) (main : Identifier) where
  abbrev pub instance_count : ℕ
  instance_count = length (all_instances p main)

  -- the number of expressions in right sides and assertions
  abbrev pub expanded : ℕ
  expanded = over_instances p main node_size
