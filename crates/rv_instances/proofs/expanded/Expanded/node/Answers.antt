use Rattle.rv_instances.proofs.ExpandedReads.{node_within, node_read}
use Rattle.rv_instances.proofs.expanded.Expanded.node.Goals as goal

pub at-requires-2 : goal.at-requires-2
at-requires-2 c = node_within c.args.self.now c.requires.known c.args.instance c.at.result.now c.requires.within c.at.ensures.value

pub returns : goal.returns
returns c = node_read c.args.self.now c.requires.known c.args.instance c.at.result.now c.requires.within c.at.ensures.value c.at-2.result.now
    c.at-2.ensures.value
