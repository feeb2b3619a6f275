use Rattle.std.proofs.Common.{List, subst, sym, ◌+◌}
use Rattle.rv_rows.specs.declared.farkas.Multipliers.{Multipliers}
use Rattle.rv_claimed.specs.Certifying.{AreReached}
use Rattle.rv_claimed.proofs.Reaching.{reached_more}
use Rattle.rv_claimed.proofs.entries.reach_rows.Goals as goal

pub reach_row-requires-clause-wanted : goal.reach_row-requires-clause-wanted
reach_row-requires-clause-wanted c = c.requires.wanted c.loop-place.place c.at.result.now c.at.ensures.value

pub loop-place-preserved : goal.loop-place-preserved
loop-place-preserved c =
    subst (λ (ms : List Multipliers). AreReached c.args.many c.args.given.now c.args.case.now c.args.wanted.now (c.loop-place.place + 1) ms)
    (sym c.in_ok-push.ensures.ok)
    (reached_more c.args.many c.args.given.now c.args.case.now c.args.wanted.now c.loop-place.place c.loop-place.reach c.in_ok-by.by c.at.result.now
    c.loop-place.invariant c.at.ensures.value c.in_ok-by.ensures)
