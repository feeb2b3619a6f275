use Rattle.std.proofs.Common.{◌∙◌}
use Rattle.rv_tree.specs.Tree.{node_tree, program_tree}
use Rattle.rv_types.specs.{Kinds.flow_kinds, Scopes.types_in_node}
use Rattle.rv_types.proofs.{RightNames.all_different, RightNames.flows_different, NodeScope.one_node, NodeScope.one_fault_more, NodeScope.node_here}
use Rattle.rv_types.proofs.types.flow_types.Goals as goal

pub loop-node-preserved : goal.loop-node-preserved
loop-node-preserved c =
    let p = program_tree c.args.p.now in
    let item = node_tree c.node-item.result in
    let names = flows_different p item (node_here p c.as_slice-all.result.now c.args.p.now.nodes c.loop-node.node-index c.node-item.result
    (all_different p c.requires.names).in_nodes c.as_slice-all.ensures c.loop-node-test.true c.node-item.is) in
    let k = c.in_ok-own.ensures.kinds p c.requires.tables in
    let f = c.in_ok-own.ensures.fault p c.requires.tables c.requires.node_tables names in
    record {
      kinds = c.in_ok-push.ensures.ok ∙ one_node (flow_kinds p) _ _ _ _ _ c.loop-node.invariant.kinds k c.loop-node-test.true c.node-item.is;
      fault = c.sooner_of-fault.ensures.value ∙ one_fault_more (types_in_node p) _ _ _ _ _ c.loop-node.invariant.fault f c.loop-node-test.true c.node-item.is;
    }
