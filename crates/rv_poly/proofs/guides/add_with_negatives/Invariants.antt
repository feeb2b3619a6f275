use Rattle.rv_poly.specs.Guides.{IsGuided}
use Rattle.rv_poly.proofs.guides.add_with_negatives.Given as goal

abbrev pub invariant-loop-second : goal.invariant-loop-second
invariant-loop-second l = IsGuided l.width l.initial.guide.rows l.guide.rows
