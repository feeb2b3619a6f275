use Rattle.rv_symbolic.specs.Words.{IsFirstOf, IsFalseAt}
use Rattle.rv_symbolic.proofs.{Extending.map_ok, Wording.false_least}
use Rattle.rv_symbolic.proofs.relation.Relation.false_observer.Goals as goal

pub returns-clause-exact : goal.returns-clause-exact
returns-clause-exact c s is control =
    map_ok c.first_false-answer.result (IsFirstOf c.args.store.now.variables (IsFalseAt c.args.store.now.nodes c.args.self.now.parts.allowed
    c.args.self.now.parts.observer c.args.from.now)) _
    (λ o h. false_least s c.args.store.now c.args.self.now is c.args.from.now o control h) c.first_false-answer.ensures.first
