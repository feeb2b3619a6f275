use Rattle.rv_state.proofs.SetLemmas.{union-control}
use Rattle.rv_state.proofs.value.Abstract.join.Goals as goal

pub returns-clause-states : goal.returns-clause-states
returns-clause-states c s is left right =
    union-control s c.args.store.now.variables c.args.self.now.control c.args.other.now.control c.in_ok-control.control is left right
    c.in_ok-control.ensures.exact
