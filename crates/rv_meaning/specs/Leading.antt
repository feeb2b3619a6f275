-- Where a path of call sites leads, by the numbers of the nodes, and what stands at a site of a node.
use Rattle.std.specs.Prelude.{ℕ, cond, nat_eq, List, [], ◌∷◌, map, unwrap_or, Option, Some, slice_index_or, None as Nothing}
use Rattle.std.specs.Option.{option_map, option_or}
use Rattle.rv_tree.specs.Tree.{Tree, Node, Form, True, False, Number, Named, Not, Minus, Pre, Current, When, Binary, If, AtMostOne, Call, Trees, None, More}
use Rattle.rv_tree.specs.Tree.{EquationTree, AssertionTree, NodeTree}
use Rattle.rv_tree.specs.Places.{Identifier, Sites, index_of}
use Rattle.rv_types.specs.Instances.{no_node}

-- The name of the node that the call at a site of an expression calls.
abbrev mutual
  pub callee_within : Tree → ℕ → Option Identifier
  callee_within (Node at site form) s = callee_within_form site form s

  pub callee_within_form : Option ℕ → Form → ℕ → Option Identifier
  callee_within_form site True s = Nothing
  callee_within_form site False s = Nothing
  callee_within_form site (Number n) s = Nothing
  callee_within_form site (Named x) s = Nothing
  callee_within_form site (Not e) s = callee_within e s
  callee_within_form site (Minus e) s = callee_within e s
  callee_within_form site (Pre e) s = callee_within e s
  callee_within_form site (Current e) s = callee_within e s
  callee_within_form site (When e c) s = callee_within e s
  callee_within_form site (Binary o a b) s = option_or (callee_within a s) (callee_within b s)
  callee_within_form site (If a b c) s = option_or (callee_within a s) (option_or (callee_within b s) (callee_within c s))
  callee_within_form site (AtMostOne es) s = callee_within_all es s
  callee_within_form site (Call f args) s = cond (nat_eq (unwrap_or site 0) s) (Some f) (callee_within_all args s)

  pub callee_within_all : Trees → ℕ → Option Identifier
  callee_within_all None s = Nothing
  callee_within_all (More e es) s = option_or (callee_within e s) (callee_within_all es s)

-- of some equations, of some assertions, of a node
abbrev pub callee_in_equations : List EquationTree → ℕ → Option Identifier
callee_in_equations [] s = Nothing
callee_in_equations (q ∷ qs) s = option_or (callee_within q.right s) (callee_in_equations qs s)

abbrev pub callee_in_assertions : List AssertionTree → ℕ → Option Identifier
callee_in_assertions [] s = Nothing
callee_in_assertions (a ∷ rest) s = option_or (callee_within a.body s) (callee_in_assertions rest s)

abbrev pub callee_in_node : NodeTree → ℕ → Option Identifier
callee_in_node n s = option_or (callee_in_equations n.equations s) (callee_in_assertions n.assertions s)

-- The operand of the `pre` or `current` at a site of an expression.
abbrev mutual
  pub operand_within : Tree → ℕ → Option Tree
  operand_within (Node at site form) s = operand_within_form site form s

  pub operand_within_form : Option ℕ → Form → ℕ → Option Tree
  operand_within_form site True s = Nothing
  operand_within_form site False s = Nothing
  operand_within_form site (Number n) s = Nothing
  operand_within_form site (Named x) s = Nothing
  operand_within_form site (Not e) s = operand_within e s
  operand_within_form site (Minus e) s = operand_within e s
  operand_within_form site (Pre e) s = cond (nat_eq (unwrap_or site 0) s) (Some e) (operand_within e s)
  operand_within_form site (Current e) s = cond (nat_eq (unwrap_or site 0) s) (Some e) (operand_within e s)
  operand_within_form site (When e c) s = operand_within e s
  operand_within_form site (Binary o a b) s = option_or (operand_within a s) (operand_within b s)
  operand_within_form site (If a b c) s = option_or (operand_within a s) (option_or (operand_within b s) (operand_within c s))
  operand_within_form site (AtMostOne es) s = operand_within_all es s
  operand_within_form site (Call f args) s = operand_within_all args s

  pub operand_within_all : Trees → ℕ → Option Tree
  operand_within_all None s = Nothing
  operand_within_all (More e es) s = option_or (operand_within e s) (operand_within_all es s)

-- of some equations, of some assertions, of a node
abbrev pub operand_in_equations : List EquationTree → ℕ → Option Tree
operand_in_equations [] s = Nothing
operand_in_equations (q ∷ qs) s = option_or (operand_within q.right s) (operand_in_equations qs s)

abbrev pub operand_in_assertions : List AssertionTree → ℕ → Option Tree
operand_in_assertions [] s = Nothing
operand_in_assertions (a ∷ rest) s = option_or (operand_within a.body s) (operand_in_assertions rest s)

abbrev pub operand_in_node : NodeTree → ℕ → Option Tree
operand_in_node n s = option_or (operand_in_equations n.equations s) (operand_in_assertions n.assertions s)

-- the names of some nodes
abbrev pub node_texts : List NodeTree → List Identifier
node_texts ns = map (λ n. n.name.text) ns

-- the node with a number
abbrev pub numbered : List NodeTree → ℕ → NodeTree
numbered ns k = slice_index_or ns k no_node

-- the number of the node that a call at a site of the node with a number calls
abbrev pub callee_at : List NodeTree → ℕ → ℕ → Option ℕ
callee_at ns k s = option_map (index_of (node_texts ns)) (callee_in_node (numbered ns k) s)

-- The number of the node to which a path leads from the node with a number, where `next` is the number of the node that a
-- call at a site calls.
abbrev pub led_by : (ℕ → ℕ → Option ℕ) → ℕ → Sites → Option ℕ
led_by next k [] = Some k
led_by next k (s ∷ ss) = elim (next k s) as (λ _. Option ℕ) [ Nothing ↦ Nothing | Some m ↦ led_by next m ss ]
