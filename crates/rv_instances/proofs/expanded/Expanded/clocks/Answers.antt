use Rattle.rv_instances.proofs.ExpandedReads.{clocks_within, clocks_read}
use Rattle.rv_instances.proofs.expanded.Expanded.clocks.Goals as goal

pub at-requires-2 : goal.at-requires-2
at-requires-2 c = clocks_within c.args.self.now c.requires.known c.args.instance c.at.result.now c.requires.within c.at.ensures.value

pub returns : goal.returns
returns c = clocks_read c.args.self.now c.requires.known c.args.instance c.at.result.now c.requires.within c.at.ensures.value c.at-2.result.now
    c.at-2.ensures.value
