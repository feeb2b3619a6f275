use Rattle.rv_poly.specs.Whole.{IsSpanOf}
use Rattle.rv_poly.proofs.spans.span_of.Given as goal

abbrev pub invariant-loop-row : goal.invariant-loop-row
invariant-loop-row l = IsSpanOf l.column l.rows l.row-index l.span
