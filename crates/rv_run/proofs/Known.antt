-- What stands in lists, names by their numbers, and the nodes of a well formed program.
use Rattle.std.specs.List.{Contains}
use Rattle.rv_tree.specs.{Tree.ProgramTree, Places.Identifier}
use Rattle.rv_types.specs.{Instances.IsInstance, Instances.Instance, Instances.is_main, Instances.is_callee, Instances.IsNode, WellFormed.AreWell}
use Rattle.rv_meaning.proofs.Acceptable.{main_in, node_of_in}

-- Names.

-- Nodes by their names.

module _ (program : ProgramTree) (main : Identifier) (well : AreWell program) (named : IsNode program main) where
  -- the node of each instance is one of the nodes
  pub node_in : (i : Instance) → IsInstance program main i → Contains program.nodes i.node
  node_in _ is_main = main_in program main named
  node_in _ (is_callee {i = i} c p at) = node_of_in program c.name ((well.formed i.node (node_in i p)).known c at)
