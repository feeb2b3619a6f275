use Rattle.std.proofs.Common.{◌≡◌, rules}
use Rattle.rv_tree.specs.Tree.{node_tree}
use Rattle.rv_types.specs.Clocks.{flow_clocks}
use Rattle.rv_types.proofs.TimingLaws.{timing_of}
use Rattle.rv_types.proofs.clocks.time_node.Goals as goal

pub clock_fault_by-requires : goal.clock_fault_by-requires
clock_fault_by-requires c =
    let clocks : c.as_slice.result.now ≡ flow_clocks (node_tree c.args.node.now) = search rules in
    timing_of (node_tree c.args.node.now) c.args.flows.now c.as_slice.result.now c.requires.names c.requires.few clocks
