use Rattle.std.proofs.Common.{◌≡◌, ◌++◌, drop}
use Rattle.rv_flatten.specs.Arrows.{marked_from}
use Rattle.rv_flatten.proofs.ticks.marked.Given as goal

abbrev pub invariant-loop-number : goal.invariant-loop-number
invariant-loop-number l = l.found ++ marked_from l.number (drop l.number l.marks) ≡ marked_from 0 l.marks
