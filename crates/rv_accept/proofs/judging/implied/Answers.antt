use Rattle.rv_accept.proofs.Judgment.{unimplied_lacks}
use Rattle.rv_accept.proofs.judging.implied.Goals as goal

pub entry_facts-requires-clause-given : goal.entry_facts-requires-clause-given
entry_facts-requires-clause-given c = let (s, is, q, range, sc) = c.requires.given in (s, is, q, range)

pub first_unimplied-requires-clause-given : goal.first_unimplied-requires-clause-given
first_unimplied-requires-clause-given c = let (s, is, q, range, sc) = c.requires.given in
    let f = rw c.in-Some.is at (c.in_ok-facts.ensures.exact s is q range sc) in (s, is, range, f.1)

pub returns-in_default-clause-exact : goal.returns-in_default-clause-exact
returns-in_default-clause-exact c = λ s is q range sc. rw c.in_default.is at (c.in_ok-facts.ensures.exact s is q range sc)

pub returns-in-Some-first-clause-exact : goal.returns-in-Some-first-clause-exact
returns-in-Some-first-clause-exact c = λ s is q range sc.
    let f = rw c.in-Some.is at (c.in_ok-facts.ensures.exact s is q range sc) in
    (f.0, unimplied_lacks s c.args.certificate.now c.args.location.now c.args.entry.now c.in-Some-first.field-0
        (rw c.in-Some-first.is at (c.in_ok-first.ensures s is range f.1)))

pub returns-clause-exact : goal.returns-clause-exact
returns-clause-exact c = λ s is q range sc.
    let f = rw c.in-Some.is at (c.in_ok-facts.ensures.exact s is q range sc) in (f.0, rw c.in_default-first.is at (c.in_ok-first.ensures s is range f.1))
