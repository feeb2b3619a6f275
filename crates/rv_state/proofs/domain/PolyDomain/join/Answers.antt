use Rattle.rv_state.proofs.JoinLemmas.{both-one-width}
use Rattle.rv_state.proofs.domain.PolyDomain.join.Goals as goal

pub joined-requires-clause-widths : goal.joined-requires-clause-widths
joined-requires-clause-widths c = both-one-width c.args.self.now.rows c.args.other.now.rows c.requires.0 c.requires.1.1 c.requires.2.1

pub returns-clause-spans : goal.returns-clause-spans
returns-clause-spans c width own other = (c.in_ok-found.ensures.poly, c.in_ok-found.ensures.width width own.1 other.1)
