use Rattle.rv_symbolic.proofs.Projecting.{initial_ok}
use Rattle.rv_symbolic.proofs.relation.Relation.initial.Goals as goal

pub returns : goal.returns
returns c s is = initial_ok s c.args.store.now c.args.self.now is c.freeze.result c.freeze.ensures.ordered c.freeze.ensures.means c.freeze.ensures.needed
