use Rattle.rv_tree.specs.Tree.{node_tree}
use Rattle.rv_types.proofs.TimingLaws.{ends_known}
use Rattle.rv_types.proofs.clocks.ends_of.Goals as goal

pub returns : goal.returns
returns c = ends_known (node_tree c.args.timing.now.node.now) c.args.timing.now.clocks.now c.in_ok-ends.ends.items c.args.timing.now.reads.clocks_are
    c.in_ok-ends.ensures
