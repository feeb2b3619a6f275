use Rattle.std.proofs.Common.{◌<◌, length, ◌∙◌, arith}
use Rattle.rv_tree.specs.Tree.{program_tree}
use Rattle.rv_instances.specs.Flowing.{flow_count}
use Rattle.rv_instances.proofs.FlowTable.{node_within, node_flows_few, count_is, to_more}
use Rattle.rv_instances.proofs.flows.flows_of.Goals as goal

pub at-node-requires : goal.at-node-requires
at-node-requires c =
    let lt : c.loop-instance.instance < length c.args.instances.now = omega arith in
    node_within c.args.p.now c.args.instances.now c.requires.nodes c.loop-instance.instance c.at.result.now lt c.at.ensures.value

pub count_flows-requires : goal.count_flows-requires
count_flows-requires c =
    let lt : c.loop-instance.instance < length c.args.instances.now = omega arith in
    node_flows_few c.args.p.now c.args.instances.now c.requires.nodes c.loop-instance.instance c.at.result.now lt c.at.ensures.value c.at-node.result.now
    c.requires.bounded c.at-node.ensures.value

pub loop-instance-preserved : goal.loop-instance-preserved
loop-instance-preserved c =
    let lt : c.loop-instance.instance < length c.args.instances.now = omega arith in
    let count = count_is c.args.p.now c.args.instances.now c.requires.nodes c.loop-instance.instance c.at.result.now lt c.at.ensures.value c.at-node.result.now
    c.at-node.ensures.value in
    record {
      found = to_more (flow_count (program_tree c.args.p.now) c.args.instances.now) c.loop-instance.found c.push_flows.new.found c.loop-instance.instance
          c.count_flows.result
          c.loop-instance.invariant.found c.in_ok-push_flows.ensures (c.count_flows.ensures ∙ count);
      end = c.loop-instance.invariant.end;
    }
