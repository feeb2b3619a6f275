use Rattle.std.proofs.Common.{◌≡◌, ◌<◌, List, length, get_or, take, subst, arith, ◌∙◌, ap}
use Rattle.std.proofs.lemmas.Option.{get_or_from_slice_get, slice_get_within}
use Rattle.std.proofs.Math.Seq.{take-length}
use Rattle.rv_rows.specs.{declared.linear.Row.Row}
use Rattle.rv_accel.specs.{Taken.AreTaken, Taken.AreCounted, Around.IsFirst, Around.HaveMoved, Around.AreMovable, Around.gaining, Around.staying}
use Rattle.rv_accel.proofs.{LoopLemmas.moved-more, FirstLemmas.counts-more}
use Rattle.rv_accel.proofs.first.add_all_moved.Goals as goal

pub loop-place-preserved : goal.loop-place-preserved
loop-place-preserved c =
    let l : c.loop-place.place < length c.args.rows.now = slice_get_within c.args.rows.now c.loop-place.place c.at.result.now c.at.ensures.value in
    let e : get_or c.args.rows.now c.loop-place.place c.at.result.now ≡ c.at.result.now =
    get_or_from_slice_get c.args.rows.now c.loop-place.place c.at.result.now c.at.result.now c.at.ensures.value in
    record {
      counts = counts-more c.args.course.steps.now c.args.rows.now c.loop-place.place c.at.result.now l e c.args.list.now c.loop-place.list c.add_moved.new.list
          c.loop-place.invariant.counts c.in_ok-add_moved.ensures.counts;
      taken = λ given stand.
          let there = stand c.loop-place.place c.at.result.now l in
          moved-more (IsFirst given c.args.course.updates.now c.args.course.steps.now) c.args.course.steps.now c.args.rows.now c.loop-place.place
          c.at.result.now l e
          c.args.list.now c.loop-place.list c.add_moved.new.list c.args.course.updates.now (c.loop-place.invariant.taken given stand)
          (c.in_ok-add_moved.ensures.taken given (there.0) (there.1 ∙ e));
    }

pub returns-clause-counts : goal.returns-clause-counts
returns-clause-counts c =
    let past = c.loop-place-test.false in
    let last = c.loop-place.auto.place-end in
    let size = c.len-place-end.ensures in
    let e : c.loop-place.place ≡ length c.args.rows.now = omega arith in
    subst (λ (rs : List Row). AreCounted c.args.course.steps.now (gaining c.args.course.steps.now rs) (staying c.args.course.steps.now rs) c.args.list.now
    c.loop-place.list) (ap (λ n. take n c.args.rows.now) e ∙ take-length c.args.rows.now) c.loop-place.invariant.counts

pub returns-clause-taken : goal.returns-clause-taken
returns-clause-taken c given stand =
    let past = c.loop-place-test.false in
    let last = c.loop-place.auto.place-end in
    let size = c.len-place-end.ensures in
    let e : c.loop-place.place ≡ length c.args.rows.now = omega arith in
    subst (λ n. AreTaken (IsFirst given c.args.course.updates.now c.args.course.steps.now) (HaveMoved c.args.course.steps.now c.args.rows.now n)
    (AreMovable c.args.course.updates.now c.args.course.steps.now c.args.rows.now) n c.args.list.now c.loop-place.list) e
    (c.loop-place.invariant.taken given stand)
