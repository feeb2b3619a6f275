use Rattle.rv_left.specs.Becoming.{AreBecoming}
use Rattle.rv_left.proofs.conditions.replacements.Given as goal

abbrev pub invariant-loop-x : goal.invariant-loop-x
invariant-loop-x l = AreBecoming l.initial.store l.store l.next l.within l.x l.by.items
