use Rattle.std.proofs.Common.{◌≡◌, take}
use Rattle.rv_taken.specs.Meeting.{opposite}
use Rattle.rv_taken.proofs.opening.negated.Given as goal

abbrev pub invariant-loop-column : goal.invariant-loop-column
invariant-loop-column l = l.list ≡ opposite (take l.column l.numbers)
