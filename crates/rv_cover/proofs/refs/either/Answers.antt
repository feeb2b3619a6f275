use Rattle.rv_diagram.proofs.Growing.{call_extends}
use Rattle.rv_cover.proofs.refs.either.Goals as goal

pub returns-clause-extends : goal.returns-clause-extends
returns-clause-extends c = call_extends c.args.store.now c.or.new.self _ c.or.result c.or.ensures.ok c.or.ensures.err
