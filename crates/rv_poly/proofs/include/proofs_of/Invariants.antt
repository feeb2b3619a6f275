use Rattle.rv_poly.specs.Included.{AreProofsOf}
use Rattle.rv_poly.proofs.include.proofs_of.Given as goal

abbrev pub invariant-loop-row : goal.invariant-loop-row
invariant-loop-row l = AreProofsOf l.row-index l.premises l.rows l.proofs
