-- The numbers at which the bounds of a program may stand: those beside its literals and integer constants.
use Rattle.std.specs.Prelude.{◌≡◌, ◌⊎◌, ℕ, ◌<◌, ℤ, pos, ◌+ℤ◌, ◌-ℤ◌, neg_ℤ, ◌<ℤ◌, List, [], ◌∷◌, length, Option, slice_index_or}
use Rattle.std.specs.List.{Contains}
use Rattle.rv_base.specs.declared.value.Value.TheVariants.{Whole}
use Rattle.rv_tree.specs.Tree.{Node, Number, ConstantTree, NodeTree, ProgramTree}
use Rattle.rv_types.specs.{Scopes.constant_values, Variables.parts, Variables.node_parts}

-- an integer literal of a node or of a constant's body, as the tree keeps it, or an integer constant
pub data IsNumberOf (p : ProgramTree) (z : ℤ) : Type 0 where
  in_node : (n : NodeTree) (at v : ℕ) (site : Option ℕ) → Contains p.nodes n → Contains (node_parts n) (Node at site (Number v)) → pos v ≡ z → IsNumberOf p z
  in_constant : (c : ConstantTree) (at v : ℕ) (site : Option ℕ) → Contains p.constants c → Contains (parts c.body) (Node at site (Number v)) → pos v ≡ z
      → IsNumberOf p z
  constant : Contains (constant_values p) (Whole z) → IsNumberOf p z

-- a number, the one before it or the one after it
abbrev pub beside : ℤ → List ℤ
beside z = (z -ℤ pos 1) ∷ z ∷ (z +ℤ pos 1) ∷ []

-- one of these or its negative
abbrev pub IsThreshold : ProgramTree → ℤ → Type 0
IsThreshold p y = (z : ℤ) × IsNumberOf p z × (Contains (beside z) y ⊎ Contains (beside z) (neg_ℤ y))

-- The thresholds of a program, in rising order, each once.
pub record AreThresholds (p : ProgramTree) (ys : List ℤ) : Type 0 where
  pub rising : (j k : ℕ) → j < k → k < length ys → slice_index_or ys j (pos 0) <ℤ slice_index_or ys k (pos 0)
  pub all : (y : ℤ) → IsThreshold p y → Contains ys y
  pub only : (y : ℤ) → Contains ys y → IsThreshold p y
