use Rattle.std.proofs.Common.{map}
use Rattle.rv_tree.specs.Tree.{node_tree}
use Rattle.rv_types.proofs.FirstNames.{space_step, fault_step}
use Rattle.rv_base.proofs.Lists.{next_of}
use Rattle.rv_types.proofs.spaces.declare_nodes.Goals as goal

pub loop-node-preserved : goal.loop-node-preserved
loop-node-preserved c =
    let d = next_of c.args.nodes.now c.loop-node.node-index c.node-item.result c.loop-node-test.true c.node-item.is in
    record {
      space = space_step _ _ _ _ _ _ (λ i. map (λ n. n.name) (map node_tree (d i))) c.in_ok-declare.ensures.space c.loop-node.invariant.space;
      fault = fault_step _ _ _ _ _ _ _ _ _ (λ i. map (λ n. n.name) (map node_tree (d i))) c.in_ok-declare.ensures.space
          c.in_ok-declare.ensures.fault c.sooner_of-fault.ensures.value c.loop-node.invariant.fault;
    }
