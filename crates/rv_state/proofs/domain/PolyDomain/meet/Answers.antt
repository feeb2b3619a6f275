use Rattle.rv_state.proofs.JoinLemmas.{both-one-width}
use Rattle.rv_state.proofs.domain.PolyDomain.meet.Goals as goal

pub meet-requires-clause-widths : goal.meet-requires-clause-widths
meet-requires-clause-widths c = both-one-width c.args.self.now.rows c.args.rows.now c.requires.0 c.requires.1.1 c.requires.2

pub returns-clause-spans : goal.returns-clause-spans
returns-clause-spans c width own rows = (c.in_ok-found.ensures.poly, c.in_ok-found.ensures.width width own.1 rows)
