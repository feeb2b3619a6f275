use Rattle.std.proofs.Common.{length}
use Rattle.rv_refine.specs.Sides.{AreLimits}
use Rattle.rv_refine.proofs.Framing.{frame_later, at_place}
use Rattle.rv_refine.proofs.rising.lead_in.Goals as goal

pub raised_limits-requires-clause-frame : goal.raised_limits-requires-clause-frame
raised_limits-requires-clause-frame c =
    let (s, frame) = c.requires.frame in
    (s, frame_later s c.args.store.now c.path_into.new.store c.args.questions.now c.args.frame.now c.path_into.ensures.extends frame)

pub raised_limits-requires-clause-limits : goal.raised_limits-requires-clause-limits
raised_limits-requires-clause-limits c = at_place (AreLimits (length c.args.frame.now.sides)) c.args.known.now.limits c.args.target c.at-limits.result.now
    c.requires.known.each c.at-limits.ensures.value
