-- Equations with several left sides.
use Rattle.std.specs.{Prelude.◌≡◌, Prelude.ℕ, Prelude.length, Prelude.Option, List.Contains}
use Rattle.rv_tree.specs.{Tree.Node, Tree.Call, Tree.Trees, Tree.EquationTree, Tree.NodeTree, Tree.ProgramTree, Places.Identifier}

-- The right side of an equation of a node is a call, where the equation has not one left side.
abbrev pub HasSides : NodeTree → Type 0
HasSides n = (q : EquationTree) → Contains n.equations q → (length q.lefts ≡ 1 → ⊥)
    → (at : ℕ) × (site : Option ℕ) × (f : Identifier) × (es : Trees) × (q.right ≡ Node at site (Call f es))

-- the same of all nodes
abbrev pub AreSided : ProgramTree → Type 0
AreSided p = (n : NodeTree) → Contains p.nodes n → HasSides n
