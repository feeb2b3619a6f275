use Rattle.std.proofs.Common.{sym, subst}
use Rattle.rv_diagram.specs.Nodes.{Diagrams}
use Rattle.rv_refine.specs.Frames.{IsFrame}
use Rattle.rv_refine.proofs.rising.raised_limit.Goals as goal

pub risen_limit-requires-clause-frame : goal.risen_limit-requires-clause-frame
risen_limit-requires-clause-frame c =
    let (s, frame, side) = c.requires.frame in
    (s, subst (λ (d : Diagrams). IsFrame s d c.args.questions.now c.args.frame.now) (sym c.is_kept.ensures.same) frame, side)
