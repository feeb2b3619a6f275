use Rattle.rv_poly.specs.Images.{AreCut}
use Rattle.rv_poly.proofs.image.cut_rows.Given as goal

abbrev pub invariant-loop-row : goal.invariant-loop-row
invariant-loop-row l = AreCut l.width l.rows l.row-index l.new
