use Rattle.std.proofs.Common.{sym, subst}
use Rattle.rv_diagram.specs.{Nodes.Diagrams, Growing.Extends}
use Rattle.rv_diagram.proofs.Growing.{extends_trans}
use Rattle.rv_refine.proofs.Framing.{frame_later}
use Rattle.rv_refine.proofs.rising.visit_in.Goals as goal

pub lead_all-requires-clause-frame : goal.lead_all-requires-clause-frame
lead_all-requires-clause-frame c =
    let (s, frame) = c.requires.frame in (
      s,
      frame_later s c.args.store.now c.sure_in.new.store c.args.questions.now c.args.frame.now
          (extends_trans c.args.store.now c.taken_in.new.store c.sure_in.new.store c.taken_in.ensures.extends c.sure_in.ensures.extends) frame,
    )

pub returns-clause-extends : goal.returns-clause-extends
returns-clause-extends c =
    subst (λ (d : Diagrams). Extends c.args.store.now d) (sym c.lead_all.ensures.same)
    (extends_trans c.args.store.now c.taken_in.new.store c.sure_in.new.store c.taken_in.ensures.extends c.sure_in.ensures.extends)
