use Rattle.rv_refine.proofs.refining.accepted.Goals as goal

pub returns-then-is_plain-clause-plain : goal.returns-then-is_plain-clause-plain
returns-then-is_plain-clause-plain c =
    let (s, given) = c.requires.given in
    c.is_plain.ensures.plain s (rw c.in-Some.is at c.in_ok-found.ensures.document s given) c.if-is_plain.true
