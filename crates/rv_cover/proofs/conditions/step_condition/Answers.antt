use Rattle.rv_diagram.proofs.Growing.{extends_trans}
use Rattle.rv_cover.proofs.conditions.step_condition.Goals as goal

pub returns-clause-extends : goal.returns-clause-extends
returns-clause-extends c =
    extends_trans c.args.store.now c.all_of.new.store c.both-2.new.store c.all_of.ensures.extends
    (extends_trans c.all_of.new.store c.both.new.store c.both-2.new.store c.both.ensures.extends
    (extends_trans c.both.new.store c.without.new.store c.both-2.new.store c.without.ensures.extends c.both-2.ensures.extends))
