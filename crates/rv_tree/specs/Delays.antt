-- Every `pre` and `current` of a node, with its operand, and the memories that they read.
use Rattle.std.specs.Prelude.{◌≡◌, ℕ, ◌+◌, ◌<◌, ◌≤◌, cond, nat_lt, nat_eq, List, [], ◌∷◌, ◌++◌, map, length, slice_index_or, Option, Some}
use Rattle.std.specs.List.{Contains}
use Rattle.rv_base.specs.Limits.{source_limit}
use Rattle.rv_tree.specs.Tree.{Tree, Node, Form, True, False, Number, Named, Not, Minus, Pre, Current, When, Binary, If, AtMostOne, Call, Trees, None, More}
use Rattle.rv_tree.specs.Tree.{EquationTree, AssertionTree, NodeTree}
use Rattle.rv_tree.specs.{Places.flows, Places.memory_site, SitedParts.SitedPart, SitedParts.node_parts}

-- a `pre` or `current`, by its site and its operand
pub record Delay : Type 0 where
  pub site : Option ℕ
  pub operand : Tree

abbrev mutual
  -- those in an expression
  pub delays : Tree → List Delay
  delays (Node at site form) = form_delays site form

  pub form_delays : Option ℕ → Form → List Delay
  form_delays site True = []
  form_delays site False = []
  form_delays site (Number n) = []
  form_delays site (Named x) = []
  form_delays site (Not e) = delays e
  form_delays site (Minus e) = delays e
  form_delays site (Pre e) = record { site = site; operand = e } ∷ delays e
  form_delays site (Current e) = record { site = site; operand = e } ∷ delays e
  form_delays site (When e c) = delays e
  form_delays site (Binary o a b) = delays a ++ delays b
  form_delays site (If a b c) = delays a ++ (delays b ++ delays c)
  form_delays site (AtMostOne es) = delays_of_all es
  form_delays site (Call f args) = delays_of_all args

  pub delays_of_all : Trees → List Delay
  delays_of_all None = []
  delays_of_all (More e es) = delays e ++ delays_of_all es

-- those of some equations
abbrev pub delays_in_equations : List EquationTree → List Delay
delays_in_equations [] = []
delays_in_equations (q ∷ qs) = delays q.right ++ delays_in_equations qs

-- those of some assertions
abbrev pub delays_in_assertions : List AssertionTree → List Delay
delays_in_assertions [] = []
delays_in_assertions (a ∷ rest) = delays a.body ++ delays_in_assertions rest

-- those of a node
abbrev pub node_delays : NodeTree → List Delay
node_delays n = delays_in_equations n.equations ++ delays_in_assertions n.assertions

-- a number put into rising numbers, where it is not among them
abbrev pub placed : ℕ → List ℕ → List ℕ
placed s [] = s ∷ []
placed s (x ∷ xs) = cond (nat_eq s x) (x ∷ xs) (cond (nat_lt s x) (s ∷ x ∷ xs) (x ∷ placed s xs))

-- rising numbers, and then some more
abbrev pub gathered : List ℕ → List ℕ → List ℕ
gathered xs [] = xs
gathered xs (s ∷ ss) = gathered (placed s xs) ss

-- the site of the memory of each `pre` and `current`
abbrev pub delay_sites : NodeTree → List Delay → List ℕ
delay_sites n ds = map (λ d. memory_site n d.site d.operand) ds

-- The sites of the memories of a node, each once, in rising order.
abbrev pub memory_sites : NodeTree → List ℕ
memory_sites n = gathered [] (delay_sites n (node_delays n))

-- How the sites of a node are numbered. Its flows come first, and are no more than a source has bytes. Each `pre` and
-- `current` has a later site of its own. So has all that has a site beside the flows: their sites are the next numbers,
-- in the order of the offsets, and no two are the same.
pub record IsNumbered (n : NodeTree) : Type 0 where
  pub few : length (flows n) ≤ source_limit
  pub beyond : (d : Delay) → Contains (node_delays n) d → (s : ℕ) × (d.site ≡ Some s) × (length (flows n) ≤ s)
  pub own : (d e : Delay) → Contains (node_delays n) d → Contains (node_delays n) e → d.site ≡ e.site → d ≡ e
  pub next : (p : SitedPart) → Contains (node_parts n) p → (s : ℕ) × (p.site ≡ Some s) × (length (flows n) ≤ s) × (s < length (flows n) + length (node_parts n))
  pub in_order : (p q : SitedPart) (s t : ℕ) → Contains (node_parts n) p → Contains (node_parts n) q → p.at < q.at → p.site ≡ Some s → q.site ≡ Some t → s < t
  pub apart : (i j : ℕ) (p : SitedPart) → i < j → j < length (node_parts n)
      → (slice_index_or (node_parts n) i p).site ≡ (slice_index_or (node_parts n) j p).site → ⊥
