use Rattle.rv_rise.proofs.Widths.{given_is}
use Rattle.rv_rise.proofs.columns.is_given.Goals as goal

pub returns : goal.returns
returns c = given_is c.args.store.now.nodes c.args.answer c.is_false.result c.is_false.ensures
