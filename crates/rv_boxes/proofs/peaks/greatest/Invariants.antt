use Rattle.rv_boxes.specs.Boxed.{IsSummed}
use Rattle.rv_boxes.proofs.peaks.greatest.Given as goal

abbrev pub invariant-loop-column : goal.invariant-loop-column
invariant-loop-column l = IsSummed l.premises l.ends l.numbers l.column l.sum
