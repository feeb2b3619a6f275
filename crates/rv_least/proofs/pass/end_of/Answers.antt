use Rattle.rv_boxes.proofs.Ending.{ends_good, ends_bad}
use Rattle.rv_least.proofs.pass.end_of.Goals as goal

pub good_end-requires : goal.good_end-requires
good_end-requires c = let (s, given, is) = c.requires in (s, given, is.least, is.all_good c.if-closed.true)

pub layers-requires : goal.layers-requires
layers-requires c = let (s, given, is) = c.requires in (s, given, is.least, is.some_bad c.if-closed.false)

pub returns-then-closed-clause-ends : goal.returns-then-closed-clause-ends
returns-then-closed-clause-ends c s given is =
    ends_good s c.args.frame.now c.args.closed.now.claim c.in_ok-certificate.certificate is.least
    (c.in_ok-certificate.ensures.proof s given is.least) (is.all_good c.if-closed.true)

pub returns-clause-ends : goal.returns-clause-ends
returns-clause-ends c s given is =
    ends_bad s c.args.frame.now c.args.closed.now.claim c.in_ok-layers.layers is.least (is.some_bad c.if-closed.false)
    (c.in_ok-layers.ensures.layers s given is.least)
