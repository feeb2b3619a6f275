use Rattle.std.proofs.Common.{◌≡◌, length, refl, ap, arith}
use Rattle.rv_tree.specs.Tree.{node_tree, program_tree}
use Rattle.rv_instances.proofs.Known.{flows_once}
use Rattle.rv_sizes.proofs.{EachNode.flows_few, TickSteps.ticked_end, TickSteps.read_among, TickSteps.read_step}
use Rattle.rv_sizes.proofs.ticks.ticks_of.Goals as goal

pub add_node-requires-clause-different : goal.add_node-requires-clause-different
add_node-requires-clause-different c =
    let p = program_tree c.args.p.now in
    flows_once p c.requires.named (node_tree c.at.result.now)
    (read_among p c.requires.named c.args.nodes.now.order c.requires.nodes.order c.args.p.now.nodes refl c.as_slice-node-items.result.now
    c.as_slice-node-items.ensures c.loop-node.node-index c.loop-node-test.true c.at.result.now c.at.ensures.value)

pub add_node-requires-clause-few : goal.add_node-requires-clause-few
add_node-requires-clause-few c =
    let p = program_tree c.args.p.now in
    flows_few p c.requires.bounded (node_tree c.at.result.now)
    (read_among p c.requires.named c.args.nodes.now.order c.requires.nodes.order c.args.p.now.nodes refl c.as_slice-node-items.result.now
    c.as_slice-node-items.ensures c.loop-node.node-index c.loop-node-test.true c.at.result.now c.at.ensures.value)

pub loop-node-preserved : goal.loop-node-preserved
loop-node-preserved c =
    let p = program_tree c.args.p.now in
    read_step p c.requires.named c.args.nodes.now.order c.requires.nodes.order c.args.p.now.nodes refl c.as_slice-node-items.result.now
    c.as_slice-node-items.ensures c.loop-node.node-index c.loop-node-test.true c.at.result.now c.at.ensures.value
    c.args.nodes.now.names c.loop-node.ticks.bases c.add_node.new.ticks.bases c.loop-node.ticks.own c.add_node.new.ticks.own c.requires.nodes.names
    c.loop-node.invariant c.in_ok-add_node.ensures.bases c.in_ok-add_node.ensures.own

pub returns : goal.returns
returns c =
    let p = program_tree c.args.p.now in
    let n : length c.as_slice-node-items.result.now ≡ length c.args.nodes.now.order = ap length c.as_slice-node-items.ensures in
    ticked_end p c.requires.named c.args.nodes.now.order c.requires.nodes.order c.loop-node.node-index c.loop-node.ticks.bases c.loop-node.ticks.own
    c.loop-node.invariant (omega (arith, n))
