use Rattle.std.proofs.Common.{◌-◌}
use Rattle.rv_symbolic.specs.{Growing.Finds, Words.AreCopiesBetween}
use Rattle.rv_symbolic.proofs.cubes.cube.Given as goal

abbrev pub invariant-loop-back : goal.invariant-loop-back
invariant-loop-back l = Finds l.initial.store l.store (AreCopiesBetween l.word (l.bits - l.back) l.bits) l.cube
