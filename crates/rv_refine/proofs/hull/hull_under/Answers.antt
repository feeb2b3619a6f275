use Rattle.rv_diagram.proofs.Growing.{extends_trans}
use Rattle.rv_cases.proofs.Keeping.{questions_later}
use Rattle.rv_refine.proofs.hull.hull_under.Goals as goal

pub hull_in-requires-clause-asked : goal.hull_in-requires-clause-asked
hull_in-requires-clause-asked c =
    let (s, is, ask) = c.requires.asked in
    let grown = extends_trans c.args.store.now c.main_tick.new.store c.both.new.store c.main_tick.ensures.extends c.both.ensures.extends in
    (s, is, questions_later s c.args.store.now c.both.new.store c.args.questions.now grown ask)

pub returns-clause-extends : goal.returns-clause-extends
returns-clause-extends c =
    extends_trans c.args.store.now c.main_tick.new.store c.hull_in.new.store c.main_tick.ensures.extends
    (extends_trans c.main_tick.new.store c.both.new.store c.hull_in.new.store c.both.ensures.extends c.hull_in.ensures.extends)
