use Rattle.std.proofs.Common.{◌<◌, ◌^◌, ◌∙◌, ap, sym, subst, length, List}
use Rattle.rv_tree.specs.{declared.tree.Name.Name, Tree.node_tree}
use Rattle.rv_types.specs.Names.{texts}
use Rattle.rv_types.proofs.{NodeFlows.flow_space, NodeFlows.space_few, TimingLaws.timing_of}
use Rattle.rv_types.proofs.reading_clocks.node_clocks.Goals as goal

pub clocks_of-requires-clause-names : goal.clocks_of-requires-clause-names
clocks_of-requires-clause-names c =
    ap texts c.in_ok-flows.ensures.space ∙ flow_space (node_tree c.args.node.now) c.requires.different

pub clocks_of-requires-clause-few : goal.clocks_of-requires-clause-few
clocks_of-requires-clause-few c =
    subst (λ (xs : List Name). length xs < 2 ^ 32) (sym c.in_ok-flows.ensures.space) (space_few (node_tree c.args.node.now) c.requires.different c.requires.few)

pub invariant_of-result : goal.invariant_of-result
invariant_of-result c = record {
  reads = timing_of (node_tree c.args.node.now) c.in_ok-flows.field-0.space c.in_ok-clocks.clocks.items
      (ap texts c.in_ok-flows.ensures.space ∙ flow_space (node_tree c.args.node.now) c.requires.different)
      (subst (λ (xs : List Name). length xs < 2 ^ 32) (sym c.in_ok-flows.ensures.space)
      (space_few (node_tree c.args.node.now) c.requires.different c.requires.few))
      c.in_ok-clocks.ensures;
}
