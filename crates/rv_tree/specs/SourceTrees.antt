-- What is so of the tree of every source. The rules of names, types, clocks and order take a tree by this alone.
use Rattle.std.specs.{Prelude.◌≡◌, Prelude.◌<◌, Prelude.List, Prelude.◌∷◌, Prelude.◌++◌, List.All, List.Contains}
use Rattle.rv_tree.specs.{Bounded.IsBounded, Delays.IsNumbered, Tree.ConstantTree, Tree.NodeTree, Tree.ProgramTree}

-- No list is longer than a source may be, the sites of each node are numbered, and each constant has a later offset than all
-- that stand before it.
pub record IsSourceTree (t : ProgramTree) : Type 0 where
  pub bounded : IsBounded t
  pub numbered : (n : NodeTree) → Contains t.nodes n → IsNumbered n
  pub in_order : (front back : List ConstantTree) (c : ConstantTree) → t.constants ≡ front ++ c ∷ back → All (λ d. d.name.at < c.name.at) front
