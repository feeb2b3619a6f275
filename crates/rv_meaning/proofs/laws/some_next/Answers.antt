use Rattle.rv_meaning.proofs.Brought.{a_next}
use Rattle.rv_meaning.proofs.laws.some_next.Goals as goal

pub returns : goal.returns
returns c program main state row well named = a_next program main state row well named
