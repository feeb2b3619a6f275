use Rattle.rv_accept.proofs.Later.{unseen_step, dead_no_step, go_step, go_dead}
use Rattle.rv_accept.proofs.entry.step_unobserved.Goals as goal

pub returns-then-is_step-clause-exact : goal.returns-then-is_step-clause-exact
returns-then-is_step-clause-exact c = unseen_step c.unobserved.result c.args.store.now c.args.parts.now c.args.entry.now c.args.scope
    (go_step c.args.entry.now.kind c.is_step.result c.is_step.ensures c.if-is_step.true) c.unobserved.ensures.exact

pub returns-else-is_step-clause-exact : goal.returns-else-is_step-clause-exact
returns-else-is_step-clause-exact c = λ s x k j l held range is sc step. absurd (dead_no_step c.args.entry.now.kind
    (go_dead c.args.entry.now.kind c.is_step.result c.is_step.ensures c.if-is_step.false) step)
