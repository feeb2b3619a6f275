use Rattle.rv_seek.proofs.LeastLemmas.{alone-wide}
use Rattle.rv_seek.proofs.least.alone_in.Goals as goal

pub returns-else-ends_within : goal.returns-else-ends_within
returns-else-ends_within c =
    let h = c.if-ends_within.ensures in
    alone-wide c.args.premises.now c.args.wanted.now c.args.width h.0 c.requires.prepared.widths h.1 h.2
