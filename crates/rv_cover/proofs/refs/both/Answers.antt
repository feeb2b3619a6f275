use Rattle.rv_diagram.proofs.Growing.{call_extends}
use Rattle.rv_cover.proofs.refs.both.Goals as goal

pub returns-clause-extends : goal.returns-clause-extends
returns-clause-extends c = call_extends c.args.store.now c.and.new.self _ c.and.result c.and.ensures.ok c.and.ensures.err
