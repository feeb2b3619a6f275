use Rattle.std.proofs.Common.{◌++◌, refl, subst, sym}
use Rattle.rv_accel.specs.Around.{StandAt}
use Rattle.rv_accel.proofs.StandLemmas.{stand-left, stand-right, around-proved, around-has, around-room}
use Rattle.rv_accel.proofs.around.rows_around.Goals as goal

pub returns-clause-proved : goal.returns-clause-proved
returns-clause-proved c =
    around-proved (c.args.first.now ++ c.args.rows.now) c.args.course.updates.now c.args.course.steps.now c.args.first.now c.args.rows.now
    _ c.add_levels.new.list c.add_all_sums.new.list c.add_all_sums-2.new.list c.new.ensures c.new-2.ensures refl
    (c.in_ok-add_levels.ensures (c.args.first.now ++ c.args.rows.now) (stand-left c.args.first.now c.args.rows.now))
    (c.in_ok-add_all_sums.ensures (c.args.first.now ++ c.args.rows.now) (subst (λ n. StandAt n c.args.rows.now (c.args.first.now ++ c.args.rows.now))
    (sym c.len.ensures) (stand-right c.args.first.now c.args.rows.now)) (stand-left c.args.first.now c.args.rows.now))
    (c.in_ok-add_all_sums-2.ensures (c.args.first.now ++ c.args.rows.now) (stand-left c.args.first.now c.args.rows.now)
    (stand-left c.args.first.now c.args.rows.now))

pub returns-clause-has : goal.returns-clause-has
returns-clause-has c =
    around-has (c.args.first.now ++ c.args.rows.now) c.args.course.updates.now c.args.course.steps.now c.args.first.now c.args.rows.now
    _ c.add_levels.new.list c.add_all_sums.new.list c.add_all_sums-2.new.list c.new.ensures c.new-2.ensures refl
    (c.in_ok-add_levels.ensures (c.args.first.now ++ c.args.rows.now) (stand-left c.args.first.now c.args.rows.now))
    (c.in_ok-add_all_sums.ensures (c.args.first.now ++ c.args.rows.now) (subst (λ n. StandAt n c.args.rows.now (c.args.first.now ++ c.args.rows.now))
    (sym c.len.ensures) (stand-right c.args.first.now c.args.rows.now)) (stand-left c.args.first.now c.args.rows.now))
    (c.in_ok-add_all_sums-2.ensures (c.args.first.now ++ c.args.rows.now) (stand-left c.args.first.now c.args.rows.now)
    (stand-left c.args.first.now c.args.rows.now))

pub returns-clause-room : goal.returns-clause-room
returns-clause-room c =
    around-room (c.args.first.now ++ c.args.rows.now) c.args.course.updates.now c.args.course.steps.now c.args.first.now c.args.rows.now
    _ c.add_levels.new.list c.add_all_sums.new.list c.add_all_sums-2.new.list c.new.ensures c.new-2.ensures refl
    (c.in_ok-add_levels.ensures (c.args.first.now ++ c.args.rows.now) (stand-left c.args.first.now c.args.rows.now))
    (c.in_ok-add_all_sums.ensures (c.args.first.now ++ c.args.rows.now) (subst (λ n. StandAt n c.args.rows.now (c.args.first.now ++ c.args.rows.now))
    (sym c.len.ensures) (stand-right c.args.first.now c.args.rows.now)) (stand-left c.args.first.now c.args.rows.now))
    (c.in_ok-add_all_sums-2.ensures (c.args.first.now ++ c.args.rows.now) (stand-left c.args.first.now c.args.rows.now)
    (stand-left c.args.first.now c.args.rows.now))
