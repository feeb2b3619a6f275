use Rattle.std.proofs.Common.{sym, subst, List}
use Rattle.rv_rows.specs.{declared.linear.Row.Row, Multipliers.ShowsAtOnce}
use Rattle.rv_seek.specs.Pairs.{PairShows}
use Rattle.rv_seek.proofs.seek.row_by.Goals as goal

pub returns-in_ok-multipliers-in-Some-clause-proof : goal.returns-in_ok-multipliers-in-Some-clause-proof
returns-in_ok-multipliers-in-Some-clause-proof c =
    let found = rw c.in-Some.is at c.in_ok-best.ensures.found in
    c.in_ok-multipliers-in-Some.ensures.proof c.args.wanted.now
    (subst (λ (rows : List Row). PairShows rows c.args.wanted.now c.in-Some.best.first c.in-Some.best.second) c.requires.same found.1)

pub returns-in_ok-found-in-None-clause-at_once : goal.returns-in_ok-found-in-None-clause-at_once
returns-in_ok-found-in-None-clause-at_once c s =
    let missing = rw c.in-None.is at c.in_ok-best.ensures.missing in
    absurd (missing (subst (λ (rows : List Row). ShowsAtOnce rows c.args.wanted.now) (sym c.requires.same) s))
