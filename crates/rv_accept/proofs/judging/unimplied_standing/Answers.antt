use Rattle.rv_accept.proofs.Judgment.{stands_asking, stands_never, fails_somewhere, fails_step}
use Rattle.rv_accept.proofs.Later.{go_step, go_dead}
use Rattle.rv_accept.proofs.judging.unimplied_standing.Goals as goal

pub returns-then-is_step-clause-exact : goal.returns-then-is_step-clause-exact
returns-then-is_step-clause-exact c = λ s cert l held sc settled leads lacks. fails_step s cert l c.args.entry.now lacks (go_step c.args.entry.now.kind
    c.is_step.result c.is_step.ensures c.if-is_step.true)

pub returns-in-Nothing-clause-exact : goal.returns-in-Nothing-clause-exact
returns-in-Nothing-clause-exact c = λ s cert l held sc settled leads lacks. stands_asking s cert l c.args.entry.now c.args.store.now c.args.scope
    c.args.parts.now.observer settled leads lacks (go_dead c.args.entry.now.kind c.is_step.result c.is_step.ensures c.if-is_step.false) sc
    (rw c.in-Nothing.is at c.in_ok-seen.ensures.exact)

pub returns-in-Never-clause-exact : goal.returns-in-Never-clause-exact
returns-in-Never-clause-exact c = λ s cert l held sc settled leads lacks. stands_never s cert l c.args.entry.now c.args.store.now c.args.scope
    c.args.parts.now.observer settled leads lacks (go_dead c.args.entry.now.kind c.is_step.result c.is_step.ensures c.if-is_step.false) sc
    held.means.observer (rw c.in-Never.is at c.in_ok-seen.ensures.exact)

pub returns-in-Somewhere-clause-exact : goal.returns-in-Somewhere-clause-exact
returns-in-Somewhere-clause-exact c = λ s cert l held sc settled leads lacks. fails_somewhere s cert l c.args.entry.now c.args.store.now c.args.scope
    c.args.parts.now.observer lacks (go_dead c.args.entry.now.kind c.is_step.result c.is_step.ensures c.if-is_step.false) sc held.means.observer
    (rw c.in-Somewhere.is at c.in_ok-seen.ensures.exact)
