use Rattle.rv_accept.proofs.Judgment.{stands_unobserved, stands_passing}
use Rattle.rv_accept.proofs.judging.implied_standing.Goals as goal

pub returns-in-Some-clause-exact : goal.returns-in-Some-clause-exact
returns-in-Some-clause-exact c = λ s cert k j l held range is sc settled leads implied. stands_unobserved s cert l c.args.entry.now c.in-Some.field-0 settled
    leads implied (rw c.in-Some.is at (c.in_ok-word.ensures.exact s cert k j l held range is sc))

pub returns-clause-exact : goal.returns-clause-exact
returns-clause-exact c = λ s cert k j l held range is sc settled leads implied. stands_passing s cert l c.args.entry.now settled leads implied
    (rw c.in_default.is at (c.in_ok-word.ensures.exact s cert k j l held range is sc))
