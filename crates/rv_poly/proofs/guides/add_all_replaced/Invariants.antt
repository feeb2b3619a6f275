use Rattle.rv_poly.specs.Guides.{IsGuided}
use Rattle.rv_poly.proofs.guides.add_all_replaced.Given as goal

abbrev pub invariant-loop-row : goal.invariant-loop-row
invariant-loop-row l = IsGuided l.width l.initial.guide.rows l.guide.rows
