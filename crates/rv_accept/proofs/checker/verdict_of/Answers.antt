use Rattle.std.proofs.Common.{sym, subst}
use Rattle.rv_diagram.specs.Nodes.{Diagrams}
use Rattle.rv_accept.specs.Passing.{IsGiven}
use Rattle.rv_accept.proofs.Firsts.{first_initial, accepted_of}
use Rattle.rv_accept.proofs.checker.verdict_of.Goals as goal

pub returns-in-Some-clause-exact : goal.returns-in-Some-clause-exact
returns-in-Some-clause-exact c = λ s g. let h = rw c.in-Some.is at
    (c.in_ok-word.ensures.exact s g.held g.range) in first_initial s c.args.certificate.now c.in-Some.word h

pub returns-in-Some-2-clause-exact : goal.returns-in-Some-2-clause-exact
returns-in-Some-2-clause-exact c = λ s g.
    let h = rw c.in-Some-2.is at (c.in_ok-reason.ensures.exact s (subst (λ
    (d : Diagrams). IsGiven s d c.args.parts.now c.args.questions.now c.args.certificate.now) (sym c.initial_word.ensures.same) g)) in
    h (rw c.in_default.is at (c.in_ok-word.ensures.exact s g.held g.range))

pub returns-clause-exact : goal.returns-clause-exact
returns-clause-exact c = λ s g.
    let h = rw c.in_default-2.is at (c.in_ok-reason.ensures.exact s (subst (λ
    (d : Diagrams). IsGiven s d c.args.parts.now c.args.questions.now c.args.certificate.now) (sym c.initial_word.ensures.same) g)) in
    accepted_of s c.args.certificate.now g.range (rw c.in_default.is at (c.in_ok-word.ensures.exact s g.held g.range)) h
