-- The instances of a program by the numbers of their nodes.
use Rattle.std.specs.{Prelude.ℕ, Prelude.◌<◌, Prelude.List, Prelude.length, Prelude.slice_index_or, Prelude.◌≡◌, List.Contains}
use Rattle.rv_tree.specs.{Tree.ProgramTree, Tree.Tree, Tree.NodeTree, Places.Identifier}
use Rattle.rv_types.specs.Instances.{CallTree, calls, IsArgument, node_of, Instance, IsInstance, all_instances}
use Rattle.rv_types.specs.{Names.node_names, Names.texts, Settled.node_number, Needs.IsBefore}
use Rattle.rv_instances.specs.declared.answer.Instance.{Instance as Numbered}

-- the names of the nodes of a program
abbrev pub names_of : ProgramTree → List Identifier
names_of p = texts (node_names p)

-- No call has more arguments than its node has inputs.
abbrev pub AreFed : ProgramTree → Type 0
AreFed p = (n : NodeTree) (c : CallTree) (j : ℕ) (e : Tree) → Contains p.nodes n → Contains (calls n) c → IsArgument c.args j e
    → j < length (node_of p c.name).inputs

-- an instance by the number of its node
abbrev pub numbered : ProgramTree → Instance → Numbered
numbered p i = record { path = i.path; node = node_number p i.node.name.text }

-- The instances of a program, by their paths: those that stand in front of others come first, and none is missing.
pub record AreInstances (p : ProgramTree) (main : Identifier) (list : List Numbered) : Type 0 where
  pub rising : (j k : ℕ) (x : Numbered) → j < k → k < length list → IsBefore (slice_index_or list j x).path (slice_index_or list k x).path
  pub all : (i : Instance) → IsInstance p main i → Contains list (numbered p i)
  pub only : (x : Numbered) → Contains list x → (i : Instance) × IsInstance p main i × (x ≡ numbered p i)

-- The instances over which the quantities of a program are counted are all of them.
pub record AreCounted (p : ProgramTree) (main : Identifier) : Type 0 where
  pub all : (i : Instance) → IsInstance p main i → Contains (all_instances p main) i
  pub only : (i : Instance) → Contains (all_instances p main) i → IsInstance p main i
