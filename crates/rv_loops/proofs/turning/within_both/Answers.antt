use Rattle.rv_diagram.proofs.Growing.{extends_trans}
use Rattle.rv_loops.proofs.turning.within_both.Goals as goal

pub returns-clause-extends : goal.returns-clause-extends
returns-clause-extends c =
    extends_trans c.args.store.now c.within.new.store c.within-2.new.store c.within.ensures.extends c.within-2.ensures.extends
