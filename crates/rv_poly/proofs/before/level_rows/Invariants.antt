use Rattle.rv_poly.specs.{Befores.IsLevel, Images.IsNarrow, Carried.AreCarried}
use Rattle.rv_poly.proofs.before.level_rows.Given as goal

abbrev pub invariant-loop-row : goal.invariant-loop-row
invariant-loop-row l = AreCarried (IsNarrow l.width) (IsLevel l.width) l.rows l.row-index l.new
