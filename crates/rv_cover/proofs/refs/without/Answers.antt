use Rattle.rv_diagram.proofs.Growing.{call_extends}
use Rattle.rv_cover.proofs.refs.without.Goals as goal

pub returns-clause-extends : goal.returns-clause-extends
returns-clause-extends c = call_extends c.args.store.now c.ite.new.self _ c.ite.result c.ite.ensures.ok c.ite.ensures.err
