use Rattle.std.proofs.Common.{◌≡◌, length, ap, arith}
use Rattle.rv_sizes.proofs.Summing.{node_within, node_step, summed_end}
use Rattle.rv_sizes.proofs.totals.totals.Goals as goal

pub sum_of-sum-requires-clause-callees : goal.sum_of-sum-requires-clause-callees
sum_of-sum-requires-clause-callees c =
    node_within c.args.own.now c.args.calls.now c.args.order.now c.requires.ordered c.as_slice-node-items.result.now c.loop-node.node-index
    c.at-in-loop-node.result.now c.as_slice.result.now
    c.loop-node.totals c.as_slice-node-items.ensures (omega arith) c.at-in-loop-node.ensures.value c.as_slice.ensures c.loop-node.invariant

pub loop-node-preserved : goal.loop-node-preserved
loop-node-preserved c =
    node_step c.args.own.now c.args.calls.now c.args.order.now c.requires.ordered c.as_slice-node-items.result.now c.loop-node.node-index c.at.result.now
    c.sum_of-sum.result c.at-in-loop-node.result.now c.as_slice.result.now
    c.loop-node.totals c.set.new.self c.as_slice-node-items.ensures (omega arith) c.at.ensures.value c.at-in-loop-node.ensures.value c.as_slice.ensures
    c.loop-node.invariant c.sum_of-sum.ensures c.set.ensures

pub returns : goal.returns
returns c =
    let n : length c.as_slice-node-items.result.now ≡ length c.args.order.now = ap length c.as_slice-node-items.ensures in
    summed_end c.args.own.now c.args.calls.now c.args.order.now c.requires.ordered c.loop-node.node-index c.loop-node.totals c.loop-node.invariant
    (omega (arith, n))
