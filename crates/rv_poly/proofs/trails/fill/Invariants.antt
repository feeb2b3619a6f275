use Rattle.rv_poly.specs.Guides.{IsTrail}
use Rattle.rv_poly.proofs.trails.fill.Given as goal

abbrev pub invariant-loop-step : goal.invariant-loop-step
invariant-loop-step l = IsTrail l.width l.point
