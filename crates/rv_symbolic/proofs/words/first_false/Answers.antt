use Rattle.rv_symbolic.specs.Words.{IsFalseAt}
use Rattle.rv_symbolic.proofs.Wording.{picked_first, false_found}
use Rattle.rv_symbolic.proofs.words.first_false.Goals as goal

pub returns-clause-first : goal.returns-clause-first
returns-clause-first c =
    picked_first c.allowed_within.new.store c.in_ok-within.within.bad c.args.store.now.variables
    (IsFalseAt c.args.store.now.nodes c.args.allowed c.args.observer c.args.from.now) c.in_ok-pick.field-0 c.in_ok-within.ensures.bad.extends.variables
    (false_found c.args.store.now c.allowed_within.new.store c.args.allowed c.args.observer c.in_ok-within.within.bad c.args.from.now
    c.in_ok-within.ensures.bad) c.in_ok-pick.ensures
