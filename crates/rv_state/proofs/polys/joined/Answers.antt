use Rattle.std.proofs.{Common.◌≡◌, Common.List, Common.[], Common.subst, Common.slice_index_or, lemmas.Bool.both_ways}
use Rattle.rv_rows.specs.{declared.linear.Row.Row, Multipliers.ShowsAtOnce}
use Rattle.rv_state.proofs.JoinLemmas.{shown-by-none, same-width}
use Rattle.rv_state.proofs.polys.joined.Goals as goal

pub returns-then-is_empty-clause-second : goal.returns-then-is_empty-clause-second
returns-then-is_empty-clause-second c room i d l s point h =
    let e : c.args.a.now.rows ≡ [] = c.is_empty.ensures.0 c.if-is_empty.true in
    shown-by-none (slice_index_or c.args.b.now.rows i d) point (subst (λ (rows : List Row). ShowsAtOnce rows (slice_index_or c.args.b.now.rows i d)) e s)

pub returns-clause-width : goal.returns-clause-width
returns-clause-width c w own other =
    same-width c.in_ok-found.found.rows c.args.a.now.rows c.args.b.now.rows w (λ e. both_ways c.is_empty.result c.if-is_empty.false (c.is_empty.ensures.1 e))
    c.in_ok-found.ensures.width own
