use Rattle.std.proofs.Common.{◌+◌, length}
use Rattle.rv_seek.proofs.LeastLemmas.{among-wide}
use Rattle.rv_seek.proofs.least.least_among_in.Goals as goal

pub returns-else-ends_within : goal.returns-else-ends_within
returns-else-ends_within c =
    let h = c.if-ends_within.ensures in
    among-wide c.args.premises.now c.args.wanted.now c.args.width (length c.args.premises.now + 2) c.args.first h.0 c.requires.prepared.widths h.1 h.2
