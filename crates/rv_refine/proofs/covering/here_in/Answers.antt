use Rattle.rv_diagram.proofs.Growing.{extends_trans}
use Rattle.rv_refine.proofs.covering.here_in.Goals as goal

pub returns-clause-extends : goal.returns-clause-extends
returns-clause-extends c =
    extends_trans c.args.store.now c.taken_in.new.store c.scope_in.new.store c.taken_in.ensures.extends c.scope_in.ensures.extends
