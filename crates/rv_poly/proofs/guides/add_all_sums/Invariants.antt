use Rattle.rv_poly.specs.Guides.{IsGuided}
use Rattle.rv_poly.proofs.guides.add_all_sums.Given as goal

abbrev pub invariant-loop-first : goal.invariant-loop-first
invariant-loop-first l = IsGuided l.width l.initial.guide.rows l.guide.rows
