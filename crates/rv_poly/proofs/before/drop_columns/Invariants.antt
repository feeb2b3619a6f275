use Rattle.rv_poly.specs.Befores.{IsWithoutColumns}
use Rattle.rv_poly.proofs.before.drop_columns.Given as goal

abbrev pub invariant-loop-column : goal.invariant-loop-column
invariant-loop-column l = IsWithoutColumns l.«from» l.initial.poly.rows l.poly.rows
