use Rattle.std.proofs.Common.{map, ◌∙◌, ap, subst, List}
use Rattle.rv_tree.specs.Tree.{NodeTree, node_tree}
use Rattle.rv_instances.specs.Expanded.{AreTold}
use Rattle.rv_instances.proofs.ExpandedReads.{clocked_nodes}
use Rattle.rv_instances.proofs.expanded.Expanded.new.Goals as goal

pub returns-clause-known : goal.returns-clause-known
returns-clause-known c = record {
  expanded = c.requires;
  clocks = c.in_ok-clocks.ensures;
  calls = subst (λ (ns : List NodeTree). AreTold ns c.in_ok-calls.calls) (clocked_nodes c.in_ok-clocks.clocks ∙ ap (map node_tree) c.in_ok-clocks.ensures)
      c.in_ok-calls.ensures;
}
