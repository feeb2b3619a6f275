use Rattle.std.proofs.Common.{◌*◌, List, take}
use Rattle.rv_rows.specs.declared.linear.Row.{Row}
use Rattle.rv_accel.specs.Taken.{AreTaken}
use Rattle.rv_accel.specs.Around.{IsAround, HasAllSums, AreAllSmall, gaining, losing, StandAt}
use Rattle.rv_accel.proofs.around.add_all_sums.Given as goal

abbrev pub invariant-loop-place : goal.invariant-loop-place
invariant-loop-place l = (given : List Row) → StandAt l.from l.ups given → StandAt 0 l.downs given
    → AreTaken (IsAround given l.course.updates.now l.course.steps.now) (HasAllSums l.course.steps.now l.ups l.downs l.place)
    (AreAllSmall l.course.updates.now l.course.steps.now l.ups l.downs) (gaining l.course.steps.now
    (take l.place l.ups) * losing l.course.steps.now l.downs) l.initial.list
    l.list
