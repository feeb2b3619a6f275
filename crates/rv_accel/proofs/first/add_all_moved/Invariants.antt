use Rattle.std.proofs.Common.{List, take}
use Rattle.rv_rows.specs.declared.linear.Row.{Row}
use Rattle.rv_accel.specs.Taken.{AreTaken, AreCounted}
use Rattle.rv_accel.specs.Around.{IsFirst, HaveMoved, AreMovable, StandAt, gaining, staying}
use Rattle.rv_accel.proofs.first.add_all_moved.Given as goal

abbrev pub invariant-loop-place : goal.invariant-loop-place
invariant-loop-place l = record {
  counts : AreCounted l.course.steps.now (gaining l.course.steps.now (take l.place l.rows))
      (staying l.course.steps.now (take l.place l.rows)) l.initial.list l.list;
  taken : (given : List Row) → StandAt l.from l.rows given
      → AreTaken (IsFirst given l.course.updates.now l.course.steps.now) (HaveMoved l.course.steps.now l.rows l.place)
      (AreMovable l.course.updates.now l.course.steps.now l.rows)
      l.place l.initial.list l.list;
}
