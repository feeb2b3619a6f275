-- Which nodes reach which by calls, and the first call that leads back to its own node.
use Rattle.std.specs.{Prelude.◌≡◌, Prelude.ℕ, Prelude.◌≤◌, List.Contains}
use Rattle.rv_tree.specs.{Tree.NodeTree, Tree.ProgramTree, Places.Identifier}
use Rattle.rv_types.specs.Instances.{CallTree, calls, node_of}

module _ (program : ProgramTree) where
  -- a node reaches itself, and what the nodes reach that it calls
  pub data Reaches (g : Identifier) : Identifier → Type 0 where
    itself : Reaches g g
    by_call : (f : Identifier) (c : CallTree) → Contains (calls (node_of program f)) c → Reaches g c.name → Reaches g f

  -- A call whose node reaches the node that it stands in.
  pub record IsRecursive (n : NodeTree) (c : CallTree) : Type 0 where
    pub node : Contains program.nodes n
    pub call : Contains (calls n) c
    pub back : Reaches n.name.text c.name

  -- No node reaches itself by calls.
  abbrev pub HasNoRecursion : Type 0
  HasNoRecursion = (n : NodeTree) (c : CallTree) → IsRecursive n c → ⊥

  -- the least offset of a call that leads back
  pub record IsFirstRecursion (at : ℕ) : Type 0 where
    pub here : (n : NodeTree) × (c : CallTree) × IsRecursive n c × (c.at ≡ at)
    pub first : (n : NodeTree) (c : CallTree) → IsRecursive n c → at ≤ c.at
