use Rattle.rv_walk.proofs.Joining.{joined_extends, joined_fresh, joined_all}
use Rattle.rv_walk.proofs.sets.join_to.Goals as goal

pub returns-clause-extends : goal.returns-clause-extends
returns-clause-extends c =
    joined_extends c.args.store.now c.thaw.new.self c.rest.new.store c.or.new.self c.args.next.now c.args.before
    c.in_ok-step.step c.in_ok-fresh.fresh c.in_ok-all.all c.requires.before c.in_ok-step.ensures.ok c.in_ok-fresh.ensures.ok c.in_ok-all.ensures.ok

pub returns-clause-fresh : goal.returns-clause-fresh
returns-clause-fresh c =
    joined_fresh c.args.store.now c.thaw.new.self c.rest.new.store c.or.new.self c.args.next.now c.args.before
    c.in_ok-step.step c.in_ok-fresh.fresh c.in_ok-all.all c.requires.before c.in_ok-step.ensures.ok c.in_ok-fresh.ensures.ok c.in_ok-all.ensures.ok

pub returns-clause-all : goal.returns-clause-all
returns-clause-all c =
    joined_all c.args.store.now c.thaw.new.self c.rest.new.store c.or.new.self c.args.next.now c.args.before
    c.in_ok-step.step c.in_ok-fresh.fresh c.in_ok-all.all c.requires.before c.in_ok-step.ensures.ok c.in_ok-fresh.ensures.ok c.in_ok-all.ensures.ok
