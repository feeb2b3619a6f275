use Rattle.rv_flatten.specs.Building.{AreAsserted, numbers_of}
use Rattle.rv_flatten.proofs.assertions.flat_assertions.Given as goal

abbrev pub invariant-loop-instance : goal.invariant-loop-instance
invariant-loop-instance l = AreAsserted l.given.expanded.now (numbers_of l.given l.found) l.instance l.made
