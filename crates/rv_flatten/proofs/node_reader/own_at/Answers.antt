use Rattle.rv_flatten.proofs.ReadNodes.{own_within, own_read}
use Rattle.rv_flatten.proofs.node_reader.own_at.Goals as goal

pub at-requires-2 : goal.at-requires-2
at-requires-2 c = own_within c.args.expanded.now c.requires.known c.args.tables.now c.args.owns.now c.requires.owns c.args.instance c.at.result.now
    c.requires.within c.at.ensures.value

pub returns : goal.returns
returns c = own_read c.args.expanded.now c.requires.known c.args.tables.now c.args.owns.now c.requires.owns c.args.instance c.at.result.now c.requires.within
    c.at.ensures.value c.at-2.result.now c.at-2.ensures.value
