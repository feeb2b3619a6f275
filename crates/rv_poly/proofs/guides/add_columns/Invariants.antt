use Rattle.rv_poly.specs.Guides.{IsGuided}
use Rattle.rv_poly.proofs.guides.add_columns.Given as goal

abbrev pub invariant-loop-past : goal.invariant-loop-past
invariant-loop-past l = IsGuided l.width l.initial.guide.rows l.guide.rows
