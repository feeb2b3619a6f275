use Rattle.rv_boxes.specs.Boxed.{IsUncrossed}
use Rattle.rv_boxes.proofs.shut.crossed_column.Given as goal

abbrev pub invariant-loop-column : goal.invariant-loop-column
invariant-loop-column l = IsUncrossed l.premises l.ends l.column
