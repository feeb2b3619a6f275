-- Where the flows and the memories of a program lie: a place is the call sites from the main node to an
-- instance, and then one site in its node.
use Rattle.std.specs.Prelude.{ℕ, ◌+◌, Bool, false, ◌||◌, cond, nat_eq, List, [], ◌∷◌, ◌++◌, map, unwrap_or, Option}
use Rattle.std.specs.Cmp.Lexicographic.{pointwise}
use Rattle.rv_tree.specs.{declared.tree.Decl.Decl, Tree.Tree, Tree.Node, Tree.Form, Tree.Named, Tree.NodeTree}

-- a name, by its bytes
abbrev pub Identifier : Type 0
Identifier = List ℕ

-- a place, by its sites
abbrev pub Sites : Type 0
Sites = List ℕ

abbrev pub is_same : Identifier → Identifier → Bool
is_same x y = pointwise nat_eq x y

-- the names that are declared, in order
abbrev pub names : List Decl → List Identifier
names ds = map (λ d. d.name.text) ds

-- The flows of a node in the order of their sites: inputs, outputs, locals.
abbrev pub flows : NodeTree → List Identifier
flows n = names n.inputs ++ names n.outputs ++ names n.locals

-- the first number of a name in a list, its length where it is not there
abbrev pub index_of : List Identifier → Identifier → ℕ
index_of [] x = 0
index_of (y ∷ ys) x = cond (is_same y x) 0 (index_of ys x + 1)

abbrev pub is_among : List Identifier → Identifier → Bool
is_among [] x = false
is_among (y ∷ ys) x = is_same y x || is_among ys x

-- the site of a flow
abbrev pub site_of : NodeTree → Identifier → ℕ
site_of n x = index_of (flows n) x

-- whether a name is that of a flow of the node
abbrev pub is_flow : NodeTree → Identifier → Bool
is_flow n x = is_among (flows n) x

-- the place of a flow of the instance with these call sites
abbrev pub flow_place : Sites → NodeTree → Identifier → Sites
flow_place path n x = path ++ site_of n x ∷ []

-- The site of the memory of a `pre` or `current`, by its operand: all those of one flow share the flow's site, and
-- any other has its own.
abbrev mutual
  pub memory_site : NodeTree → Option ℕ → Tree → ℕ
  memory_site n site (Node _ _ form) = memory_of n site form

  pub memory_of : NodeTree → Option ℕ → Form → ℕ
  memory_of n site (Named x) = cond (is_flow n x) (site_of n x) (unwrap_or site 0)
  memory_of n site _ = unwrap_or site 0

-- the place of that memory in the instance with these call sites
abbrev pub memory_place : Sites → NodeTree → Option ℕ → Tree → Sites
memory_place path n site e = path ++ memory_site n site e ∷ []
