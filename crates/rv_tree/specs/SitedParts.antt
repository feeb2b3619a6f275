-- What has a site in a node beside its flows: every `pre`, `current`, call, comparison and assertion.
use Rattle.std.specs.Prelude.{ℕ, cond, List, [], ◌∷◌, ◌++◌, Option, Some}
use Rattle.rv_tree.specs.Tree.{Tree, Node, Form, True, False, Number, Named, Not, Minus, Pre, Current, When, Binary, If, AtMostOne, Call, Trees, None, More}
use Rattle.rv_tree.specs.Tree.{EquationTree, AssertionTree, NodeTree}
use Rattle.rv_tree.specs.{declared.tree.Op.Op, Sites.is_comparison}

-- one of them, by its offset and its site
pub record SitedPart : Type 0 where
  pub at : ℕ
  pub site : Option ℕ

abbrev pub part : ℕ → Option ℕ → SitedPart
part at site = record { at = at; site = site }

-- an operator, where it is a comparison
abbrev pub comparison : Op → ℕ → Option ℕ → List SitedPart
comparison o at site = cond (is_comparison o) (part at site ∷ []) []

abbrev mutual
  -- those in an expression
  pub parts : Tree → List SitedPart
  parts (Node at site form) = form_parts at site form

  pub form_parts : ℕ → Option ℕ → Form → List SitedPart
  form_parts at site True = []
  form_parts at site False = []
  form_parts at site (Number n) = []
  form_parts at site (Named x) = []
  form_parts at site (Not t) = parts t
  form_parts at site (Minus t) = parts t
  form_parts at site (Pre t) = part at site ∷ parts t
  form_parts at site (Current t) = part at site ∷ parts t
  form_parts at site (When t c) = parts t
  form_parts at site (Binary o a b) = parts a ++ (comparison o at site ++ parts b)
  form_parts at site (If a b c) = parts a ++ (parts b ++ parts c)
  form_parts at site (AtMostOne ts) = trees_parts ts
  form_parts at site (Call f ts) = part at site ∷ trees_parts ts

  pub trees_parts : Trees → List SitedPart
  trees_parts None = []
  trees_parts (More t ts) = parts t ++ trees_parts ts

-- those in some equations
abbrev pub equation_parts : List EquationTree → List SitedPart
equation_parts [] = []
equation_parts (q ∷ qs) = parts q.right ++ equation_parts qs

-- some assertions, and those in them
abbrev pub assertion_parts : List AssertionTree → List SitedPart
assertion_parts [] = []
assertion_parts (a ∷ rest) = part a.at (Some a.site) ∷ (parts a.body ++ assertion_parts rest)

-- those of a node
abbrev pub node_parts : NodeTree → List SitedPart
node_parts n = equation_parts n.equations ++ assertion_parts n.assertions
