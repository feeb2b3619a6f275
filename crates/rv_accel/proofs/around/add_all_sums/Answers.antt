use Rattle.std.proofs.Common.{◌≡◌, ◌*◌, ◌<◌, List, length, get_or, take, subst, arith, ◌∙◌}
use Rattle.std.proofs.lemmas.Option.{get_or_from_slice_get, slice_get_within}
use Rattle.std.proofs.Math.Seq.{take-length}
use Rattle.rv_rows.specs.{declared.linear.Row.Row}
use Rattle.rv_accel.specs.{Taken.AreTaken, Around.IsAround, Around.HasAllSums, Around.AreAllSmall, Around.gaining, Around.losing}
use Rattle.rv_accel.proofs.LoopLemmas.{all-sums-more}
use Rattle.rv_accel.proofs.around.add_all_sums.Goals as goal

pub loop-place-preserved : goal.loop-place-preserved
loop-place-preserved c given stand stand_downs =
    let l : c.loop-place.place < length c.args.ups.now = slice_get_within c.args.ups.now c.loop-place.place c.at.result.now c.at.ensures.value in
    let e : get_or c.args.ups.now c.loop-place.place c.at.result.now ≡ c.at.result.now =
    get_or_from_slice_get c.args.ups.now c.loop-place.place c.at.result.now c.at.result.now c.at.ensures.value in
    let there = stand c.loop-place.place c.at.result.now l in
    all-sums-more (IsAround given c.args.course.updates.now c.args.course.steps.now) c.args.course.steps.now c.args.ups.now c.loop-place.place
    c.at.result.now l e
    c.args.list.now c.loop-place.list c.add_sums_of.new.list c.args.course.updates.now c.args.downs.now (c.loop-place.invariant given stand stand_downs)
    (c.in_ok-add_sums_of.ensures given (there.0) (there.1 ∙ e) stand_downs)

pub returns : goal.returns
returns c given stand stand_downs =
    let past = c.loop-place-test.false in
    let last = c.loop-place.auto.place-end in
    let size = c.len-place-end.ensures in
    let e : c.loop-place.place ≡ length c.args.ups.now = omega arith in
    subst (λ (rs : List Row). AreTaken (IsAround given c.args.course.updates.now c.args.course.steps.now)
    (HasAllSums c.args.course.steps.now c.args.ups.now c.args.downs.now (length c.args.ups.now))
    (AreAllSmall c.args.course.updates.now c.args.course.steps.now c.args.ups.now c.args.downs.now)
    (gaining c.args.course.steps.now rs * losing c.args.course.steps.now c.args.downs.now) c.args.list.now c.loop-place.list)
    (take-length c.args.ups.now)
    (subst (λ n. AreTaken (IsAround given c.args.course.updates.now c.args.course.steps.now)
    (HasAllSums c.args.course.steps.now c.args.ups.now c.args.downs.now n)
    (AreAllSmall c.args.course.updates.now c.args.course.steps.now c.args.ups.now c.args.downs.now)
    (gaining c.args.course.steps.now (take n c.args.ups.now) * losing c.args.course.steps.now c.args.downs.now) c.args.list.now
    c.loop-place.list) e (c.loop-place.invariant given stand stand_downs))
