-- The sites of a node: first its flows, then each `pre`, `current`, call, comparison and assertion, numbered in the
-- order of their offsets. Nothing else has a site.
use Rattle.std.specs.Prelude.{ℕ, ◌+◌, Bool, true, false, cond, nat_lt, List, [], ◌∷◌, ◌++◌, map, length, Option, Some, None as Nothing}
use Rattle.rv_tree.specs.Tree.{Tree, Node, Form, True, False, Number, Named, Not, Minus, Pre, Current, When, Binary, If, AtMostOne, Call, Trees, None, More}
use Rattle.rv_tree.specs.Tree.{EquationTree, AssertionTree, NodeTree}
use Rattle.rv_tree.specs.{declared.tree.Op.Op, Places.flows}
use Rattle.rv_tree.specs.declared.tree.Op.TheVariants as op

-- the comparison operators, those of level 5
abbrev pub is_comparison : Op → Bool
is_comparison op.Equal = true
is_comparison op.Differs = true
is_comparison op.Less = true
is_comparison op.AtMost = true
is_comparison op.Greater = true
is_comparison op.AtLeast = true
is_comparison _ = false

-- an operator's own offset, where it is a comparison
abbrev pub compared : Op → ℕ → List ℕ
compared o at = cond (is_comparison o) (at ∷ []) []

-- the offset of each `pre`, `current`, call and comparison of an expression
abbrev mutual
  pub offsets : Tree → List ℕ
  offsets (Node at site form) = form_offsets at form

  pub form_offsets : ℕ → Form → List ℕ
  form_offsets at True = []
  form_offsets at False = []
  form_offsets at (Number n) = []
  form_offsets at (Named x) = []
  form_offsets at (Not t) = offsets t
  form_offsets at (Minus t) = offsets t
  form_offsets at (Pre t) = at ∷ offsets t
  form_offsets at (Current t) = at ∷ offsets t
  form_offsets at (When t c) = offsets t
  form_offsets at (Binary o a b) = offsets a ++ (compared o at ++ offsets b)
  form_offsets at (If a b c) = offsets a ++ (offsets b ++ offsets c)
  form_offsets at (AtMostOne ts) = trees_offsets ts
  form_offsets at (Call f ts) = at ∷ trees_offsets ts

  pub trees_offsets : Trees → List ℕ
  trees_offsets None = []
  trees_offsets (More t ts) = offsets t ++ trees_offsets ts

-- the same of equations
abbrev pub equation_offsets : List EquationTree → List ℕ
equation_offsets [] = []
equation_offsets (q ∷ qs) = offsets q.right ++ equation_offsets qs

-- the offset of each assertion, and those in it
abbrev pub assertion_offsets : List AssertionTree → List ℕ
assertion_offsets [] = []
assertion_offsets (a ∷ rest) = a.at ∷ (offsets a.body ++ assertion_offsets rest)

-- the offset of all that has a site in a node beside its flows
abbrev pub node_offsets : NodeTree → List ℕ
node_offsets n = equation_offsets n.equations ++ assertion_offsets n.assertions

-- how many of these offsets are less than this one
abbrev pub earlier : ℕ → List ℕ → ℕ
earlier at [] = 0
earlier at (x ∷ xs) = cond (nat_lt x at) 1 0 + earlier at xs

-- the site of an offset, where these offsets are numbered in their order from a first one on
abbrev pub numbered_from : ℕ → List ℕ → ℕ → ℕ
numbered_from first all at = first + earlier at all

-- The site of what has this offset in a node: the number of flows, and of the offsets before it.
abbrev pub site_at : NodeTree → ℕ → ℕ
site_at n = numbered_from (length (flows n)) (node_offsets n)

-- how many sites a node has
abbrev pub site_count : NodeTree → ℕ
site_count n = length (flows n) + length (node_offsets n)

-- the site of an operator, where it is a comparison
abbrev pub compared_site : Op → ℕ → Option ℕ
compared_site o site = cond (is_comparison o) (Some site) Nothing

-- a literal or a name
abbrev pub is_leaf : Tree → Bool
is_leaf (Node at site True) = true
is_leaf (Node at site False) = true
is_leaf (Node at site (Number n)) = true
is_leaf (Node at site (Named x)) = true
is_leaf (Node at site _) = false

-- an expression in which each `pre`, `current`, call and comparison has the site of its offset, and nothing else one
abbrev mutual
  pub sited : (ℕ → ℕ) → Tree → Tree
  sited f (Node at site form) = sited_node f at form

  pub sited_node : (ℕ → ℕ) → ℕ → Form → Tree
  sited_node f at True = Node at Nothing True
  sited_node f at False = Node at Nothing False
  sited_node f at (Number n) = Node at Nothing (Number n)
  sited_node f at (Named x) = Node at Nothing (Named x)
  sited_node f at (Not t) = Node at Nothing (Not (sited f t))
  sited_node f at (Minus t) = Node at Nothing (Minus (sited f t))
  sited_node f at (Pre t) = Node at (Some (f at)) (Pre (sited f t))
  sited_node f at (Current t) = Node at (Some (f at)) (Current (sited f t))
  sited_node f at (When t c) = Node at Nothing (When (sited f t) c)
  sited_node f at (Binary o a b) = Node at (compared_site o (f at)) (Binary o (sited f a) (sited f b))
  sited_node f at (If a b c) = Node at Nothing (If (sited f a) (sited f b) (sited f c))
  sited_node f at (AtMostOne ts) = Node at Nothing (AtMostOne (sited_trees f ts))
  sited_node f at (Call g ts) = Node at (Some (f at)) (Call g (sited_trees f ts))

  pub sited_trees : (ℕ → ℕ) → Trees → Trees
  sited_trees f None = None
  sited_trees f (More t ts) = More (sited f t) (sited_trees f ts)

abbrev pub sited_equation : (ℕ → ℕ) → EquationTree → EquationTree
sited_equation f q = record { lefts = q.lefts; right = sited f q.right }

abbrev pub sited_assertion : (ℕ → ℕ) → AssertionTree → AssertionTree
sited_assertion f a = record { at = a.at; site = f a.at; body = sited f a.body }

-- a node with the sites that this gives each offset
abbrev pub with_sites_by : (ℕ → ℕ) → NodeTree → NodeTree
with_sites_by f n = record {
  name = n.name;
  inputs = n.inputs;
  outputs = n.outputs;
  locals = n.locals;
  equations = map (sited_equation f) n.equations;
  assertions = map (sited_assertion f) n.assertions;
}

-- a node with the sites of its expressions and assertions
abbrev pub with_sites : NodeTree → NodeTree
with_sites n = with_sites_by (site_at n) n
