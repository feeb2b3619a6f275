use Rattle.std.proofs.Common.{List}
use Rattle.rv_rows.specs.declared.linear.Row.{Row}
use Rattle.rv_accel.specs.Turns.{HasNoReset}
use Rattle.rv_accel.specs.Taken.{AreTaken, AreCounted}
use Rattle.rv_accel.specs.Around.{IsFirst}
use Rattle.rv_accel.proofs.first.add_constants.Given as goal

abbrev pub invariant-loop-column : goal.invariant-loop-column
invariant-loop-column l = record {
  counts : HasNoReset l.course.updates.now → AreCounted l.course.steps.now 0 0 l.initial.list l.list;
  taken : (given : List Row) → AreTaken (IsFirst given l.course.updates.now l.course.steps.now) (λ rows. Unit {0})
      (HasNoReset l.course.updates.now) 0 l.initial.list l.list;
}
