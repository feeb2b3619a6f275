-- The sites of the memories of nodes, and the places that they have in instances.
use Rattle.std.specs.Prelude.{ℕ, cond, nat_lt, List, [], ◌∷◌, ◌++◌, map, unwrap_or, Option, Some, slice_index_or, None as Nothing}
use Rattle.std.specs.List.{Contains}
use Rattle.rv_base.specs.declared.value.Place.{Place}
use Rattle.rv_tree.specs.{Tree.Tree, Tree.Node, Tree.Form, Tree.Named, Tree.NodeTree, Places.Sites, Delays.Delay, Delays.node_delays, Delays.delay_sites}
use Rattle.rv_types.specs.Lists.{AreRising, sites_of}
use Rattle.rv_meaning.specs.{declared.numbers.Numbers.Numbers, Leading.led_by, Numbers.number_in}

-- the site of the memory of a `pre` or `current`, where the flows have these numbers
abbrev mutual
  pub site_by : Numbers → Option ℕ → Tree → ℕ
  site_by m site (Node _ _ form) = site_by_form m site form

  pub site_by_form : Numbers → Option ℕ → Form → ℕ
  site_by_form m site (Named x) = cond (nat_lt (number_in m x) m.count) (number_in m x) (unwrap_or site 0)
  site_by_form m site _ = unwrap_or site 0

-- the same of some
abbrev pub sites_by : Numbers → List Delay → List ℕ
sites_by m ds = map (λ d. site_by m d.site d.operand) ds

-- These are the sites of the memories of a node.
pub record AreSites (n : NodeTree) (sites : List ℕ) : Type 0 where
  pub all : (s : ℕ) → Contains (delay_sites n (node_delays n)) s → Contains sites s
  pub only : (s : ℕ) → Contains sites s → Contains (delay_sites n (node_delays n)) s

-- the sites of the memories of the instance with a path, by those of the nodes
abbrev pub sites_at : (ℕ → ℕ → Option ℕ) → List (List ℕ) → ℕ → Sites → List ℕ
sites_at next sites main path = elim (led_by next main path) as (λ _. List ℕ) [ Nothing ↦ [] | Some k ↦ slice_index_or sites k [] ]

-- and their places
abbrev pub places_at : (ℕ → ℕ → Option ℕ) → List (List ℕ) → ℕ → Sites → List Sites
places_at next sites main path = map (λ s. path ++ s ∷ []) (sites_at next sites main path)

-- The same places, in order.
pub record AreSorted (before after : List Place) : Type 0 where
  pub rising : AreRising (sites_of after)
  pub all : (q : Sites) → Contains (sites_of before) q → Contains (sites_of after) q
  pub only : (q : Sites) → Contains (sites_of after) q → Contains (sites_of before) q
