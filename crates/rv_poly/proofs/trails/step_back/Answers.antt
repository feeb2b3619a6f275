use Rattle.rv_poly.proofs.GuideLemmas.{trail-none, trail-less}
use Rattle.rv_poly.proofs.trails.step_back.Goals as goal

pub returns-in-Some : goal.returns-in-Some
returns-in-Some c = trail-less c.args.width c.args.point.now c.pop.new.self c.in-Some.last c.in-Some.ensures.taken c.requires

pub returns-in-None : goal.returns-in-None
returns-in-None c = rw (c.in-None.ensures.nothing_left.1) (trail-none c.args.width)
