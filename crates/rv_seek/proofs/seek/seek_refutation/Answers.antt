use Rattle.rv_seek.proofs.seek.seek_refutation.Goals as goal

pub returns-in_ok-multipliers-in-Some-clause-proof : goal.returns-in_ok-multipliers-in-Some-clause-proof
returns-in_ok-multipliers-in-Some-clause-proof c =
    let found = rw c.in-Some.is at c.in_ok-best.ensures.found in
    c.in_ok-multipliers-in-Some.ensures.refutation found.1

pub returns-in_ok-found-in-None-clause-at_once : goal.returns-in_ok-found-in-None-clause-at_once
returns-in_ok-found-in-None-clause-at_once c s = let missing = rw c.in-None.is at c.in_ok-best.ensures.missing in absurd (missing s)
