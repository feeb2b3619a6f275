use Rattle.std.proofs.Common.{length, arith}
use Rattle.rv_poly.proofs.MovedLemmas.{moved-poly, moved-width}
use Rattle.rv_poly.proofs.image.far_rows.Goals as goal

pub returns-then-not-are_moves-clause-exact : goal.returns-then-not-are_moves-clause-exact
returns-then-not-are_moves-clause-exact c moves narrow stay point size h = absurd ((rw c.if-not-are_moves.true at c.are_moves.ensures) moves)

pub returns-clause-poly : goal.returns-clause-poly
returns-clause-poly c = moved-poly c.args.updates.now c.args.premises.now c.in_ok-rows.rows (length c.args.premises.now) c.requires.few
    c.in_ok-rows.ensures.rows

pub returns-clause-few : goal.returns-clause-few
returns-clause-few c = let m = c.in_ok-rows.ensures.rows.few in let n = c.requires.few in omega arith

pub returns-clause-width : goal.returns-clause-width
returns-clause-width c = moved-width c.args.updates.now c.args.premises.now c.in_ok-rows.rows (length c.args.premises.now) c.in_ok-rows.ensures.rows

pub returns-clause-contains : goal.returns-clause-contains
returns-clause-contains c = c.in_ok-rows.ensures.contains (rw c.if-not-are_moves.false at c.are_moves.ensures)
