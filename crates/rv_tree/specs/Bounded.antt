-- How large the parts of a program's tree are at most.
use Rattle.std.specs.{Prelude.◌≤◌, Prelude.◌≡◌, Prelude.ℕ, Prelude.List, Prelude.length, List.Contains}
use Rattle.rv_tree.specs.Tree.{NodeTree, ProgramTree}
use Rattle.rv_tree.specs.{declared.tree.Name.Name, declared.tree.TypeDecl.TypeDecl, declared.tree.TypeBody.TheVariants.Labels, Places.flows}
use Rattle.rv_base.specs.Limits.{source_limit}

-- the most that a source has of anything: it has no more than bytes
abbrev pub most : ℕ
most = source_limit

-- The declarations of each kind, the labels of a type and the flows of a node are no more than a source has bytes.
pub record IsBounded (t : ProgramTree) : Type 0 where
  pub types : length t.types ≤ source_limit
  pub constants : length t.constants ≤ source_limit
  pub nodes : length t.nodes ≤ source_limit
  pub labels : (d : TypeDecl) (xs : List Name) → Contains t.types d → d.body ≡ Labels xs → length xs ≤ source_limit
  pub node_flows : (n : NodeTree) → Contains t.nodes n → length (flows n) ≤ source_limit
