use Rattle.std.proofs.Common.{◌≡◌, false, drop, replicate}
use Rattle.rv_flatten.specs.Arrows.{with_marks}
use Rattle.rv_flatten.proofs.ticks.marks_of.Given as goal

abbrev pub invariant-loop-number : goal.invariant-loop-number
invariant-loop-number l = with_marks l.marks (drop l.number-index l.numbers) ≡ with_marks (replicate l.count false) l.numbers
