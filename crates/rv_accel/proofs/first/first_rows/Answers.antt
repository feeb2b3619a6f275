use Rattle.std.proofs.Common.{◌++◌, refl, subst, sym}
use Rattle.rv_accel.specs.Around.{StandAt}
use Rattle.rv_accel.proofs.StandLemmas.{stand-left, stand-right}
use Rattle.rv_accel.proofs.FirstLemmas.{first-proved, first-entry, first-tests, first-room}
use Rattle.rv_accel.proofs.first.first_rows.Goals as goal

pub returns-clause-proved : goal.returns-clause-proved
returns-clause-proved c =
    first-proved (c.args.entry.now ++ c.args.tests.now) c.args.course.updates.now c.args.course.steps.now c.args.entry.now c.args.tests.now
    _ c.add_constants.new.list c.add_all_moved.new.list c.add_all_moved-2.new.list c.new.ensures c.new-2.ensures refl
    (c.in_ok-add_constants.ensures.taken (c.args.entry.now ++ c.args.tests.now))
    (c.in_ok-add_all_moved.ensures.taken (c.args.entry.now ++ c.args.tests.now) (stand-left c.args.entry.now c.args.tests.now))
    (c.in_ok-add_all_moved-2.ensures.taken (c.args.entry.now ++ c.args.tests.now)
    (subst (λ n. StandAt n c.args.tests.now (c.args.entry.now ++ c.args.tests.now)) (sym c.len.ensures) (stand-right c.args.entry.now c.args.tests.now)))

pub returns-clause-entry : goal.returns-clause-entry
returns-clause-entry c =
    first-entry (c.args.entry.now ++ c.args.tests.now) c.args.course.updates.now c.args.course.steps.now c.args.entry.now c.args.tests.now
    _ c.add_constants.new.list c.add_all_moved.new.list c.add_all_moved-2.new.list c.new.ensures c.new-2.ensures refl
    (c.in_ok-add_constants.ensures.taken (c.args.entry.now ++ c.args.tests.now))
    (c.in_ok-add_all_moved.ensures.taken (c.args.entry.now ++ c.args.tests.now) (stand-left c.args.entry.now c.args.tests.now))
    (c.in_ok-add_all_moved-2.ensures.taken (c.args.entry.now ++ c.args.tests.now)
    (subst (λ n. StandAt n c.args.tests.now (c.args.entry.now ++ c.args.tests.now)) (sym c.len.ensures) (stand-right c.args.entry.now c.args.tests.now)))

pub returns-clause-tests : goal.returns-clause-tests
returns-clause-tests c =
    first-tests (c.args.entry.now ++ c.args.tests.now) c.args.course.updates.now c.args.course.steps.now c.args.entry.now c.args.tests.now
    _ c.add_constants.new.list c.add_all_moved.new.list c.add_all_moved-2.new.list c.new.ensures c.new-2.ensures refl
    (c.in_ok-add_constants.ensures.taken (c.args.entry.now ++ c.args.tests.now))
    (c.in_ok-add_all_moved.ensures.taken (c.args.entry.now ++ c.args.tests.now) (stand-left c.args.entry.now c.args.tests.now))
    (c.in_ok-add_all_moved-2.ensures.taken (c.args.entry.now ++ c.args.tests.now)
    (subst (λ n. StandAt n c.args.tests.now (c.args.entry.now ++ c.args.tests.now)) (sym c.len.ensures) (stand-right c.args.entry.now c.args.tests.now)))

pub returns-clause-room : goal.returns-clause-room
returns-clause-room c =
    first-room (c.args.entry.now ++ c.args.tests.now) c.args.course.updates.now c.args.course.steps.now c.args.entry.now c.args.tests.now
    _ c.add_constants.new.list c.add_all_moved.new.list c.add_all_moved-2.new.list c.new.ensures c.new-2.ensures refl
    (c.in_ok-add_constants.ensures.taken (c.args.entry.now ++ c.args.tests.now))
    (c.in_ok-add_all_moved.ensures.taken (c.args.entry.now ++ c.args.tests.now) (stand-left c.args.entry.now c.args.tests.now))
    (c.in_ok-add_all_moved-2.ensures.taken (c.args.entry.now ++ c.args.tests.now)
    (subst (λ n. StandAt n c.args.tests.now (c.args.entry.now ++ c.args.tests.now)) (sym c.len.ensures) (stand-right c.args.entry.now c.args.tests.now)))
