-- The numbers of a program: its integer literals, as its tree keeps them, and the values of its integer constants.
use Rattle.std.specs.{Prelude.ℕ, Prelude.◌≤◌, Prelude.ℤ, Prelude.Option, Int.RustNames.unsigned_abs, List.Contains}
use Rattle.rv_base.specs.{declared.value.Value.TheVariants.Whole, Limits.too_heavy}
use Rattle.rv_tree.specs.Tree.{Node, Number, ConstantTree, NodeTree, ProgramTree}
use Rattle.rv_types.specs.{Scopes.constant_values, Variables.parts, Variables.node_parts}

-- Each literal in a node or in the body of a constant, and each integer constant, has a magnitude of at most 2^40 + 1.
pub record HasSmallNumbers (p : ProgramTree) : Type 0 where
  pub in_nodes : (n : NodeTree) (at v : ℕ) (site : Option ℕ) → Contains p.nodes n → Contains (node_parts n) (Node at site (Number v)) → v ≤ too_heavy
  pub in_constants : (c : ConstantTree) (at v : ℕ) (site : Option ℕ) → Contains p.constants c → Contains (parts c.body) (Node at site (Number v))
      → v ≤ too_heavy
  pub constants : (z : ℤ) → Contains (constant_values p) (Whole z) → unsigned_abs z ≤ too_heavy
