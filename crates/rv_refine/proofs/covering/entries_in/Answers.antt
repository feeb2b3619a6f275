use Rattle.rv_diagram.proofs.Growing.{extends_trans}
use Rattle.rv_refine.proofs.Framing.{frame_later}
use Rattle.rv_refine.proofs.Planning.{searched_by}
use Rattle.rv_refine.proofs.covering.entries_in.Goals as goal

pub entries_toward-requires-clause-searched : goal.entries_toward-requires-clause-searched
entries_toward-requires-clause-searched c =
    let (s, frame, plan, few) = c.requires.frame in
    let grown = extends_trans c.args.store.now c.here_in.new.store c.targets_in.new.store c.here_in.ensures.extends c.targets_in.ensures.extends in
    let later = frame_later s c.args.store.now c.targets_in.new.store c.args.questions.now c.args.frame.now grown frame in (
      s,
      searched_by s c.targets_in.new.store c.args.questions.now c.args.frame.now _ _ c.in_ok-within.within c.args.given.now later few
          c.in_ok-within.ensures,
      c.in_ok-targets.ensures.targets s plan,
    )

pub returns-clause-extends : goal.returns-clause-extends
returns-clause-extends c =
    extends_trans c.args.store.now c.targets_in.new.store c.entries_toward.new.store
    (extends_trans c.args.store.now c.here_in.new.store c.targets_in.new.store c.here_in.ensures.extends c.targets_in.ensures.extends)
    c.entries_toward.ensures.extends
