use Rattle.rv_diagram.proofs.Growing.{call_extends}
use Rattle.rv_accept.proofs.Growing.{cut_means}
use Rattle.rv_accept.proofs.sets.without.Goals as goal

pub returns-clause-extends : goal.returns-clause-extends
returns-clause-extends c = call_extends c.args.store.now c.ite.new.self _ c.ite.result c.ite.ensures.ok c.ite.ensures.err

pub returns-clause-means : goal.returns-clause-means
returns-clause-means c = cut_means c.ite.result c.args.store.now c.ite.new.self c.args.a c.args.b c.constant-none.result c.constant-none.ensures.means
    c.ite.ensures.ok
