use Rattle.rv_accept.proofs.Judgment.{seen_somewhere, seen_never, seen_nothing}
use Rattle.rv_accept.proofs.judging.seen_in.Goals as goal

pub returns-then-on-clause-exact : goal.returns-then-on-clause-exact
returns-then-on-clause-exact c = seen_somewhere c.args.store.now c.and.new.self c.args.scope c.args.observer c.in_ok-met.met c.in_ok-met.ensures.ok
    c.requires.scope (rw c.if-on.true at c.in_ok-on.ensures)

pub returns-then-some-clause-exact : goal.returns-then-some-clause-exact
returns-then-some-clause-exact c = seen_never c.args.store.now c.and.new.self c.args.scope c.args.observer c.in_ok-met.met c.in_ok-met.ensures.ok
    c.requires.scope (rw c.if-on.false at c.in_ok-on.ensures) (rw c.if-some.true at c.in_ok-some.ensures)

pub returns-clause-exact : goal.returns-clause-exact
returns-clause-exact c = seen_nothing c.args.store.now c.and.new.self c.args.scope c.args.observer c.in_ok-met.met
    c.in_ok-met.ensures.ok c.requires.scope (rw c.if-some.false at c.in_ok-some.ensures)
