use Rattle.std.proofs.Common.{◌≡◌, ◌+◌, ◌<◌, length, get_or, arith, ◌∙◌, ap}
use Rattle.std.proofs.lemmas.Option.{get_or_from_slice_get, slice_get_within}
use Rattle.rv_rows.specs.Rows.{row_at}
use Rattle.rv_accel.specs.Around.{IsAround}
use Rattle.rv_accel.proofs.LoopLemmas.{levels-more}
use Rattle.std.proofs.Common.{subst, take, List}
use Rattle.std.proofs.Math.Seq.{take-length}
use Rattle.rv_rows.specs.declared.linear.Row.{Row}
use Rattle.rv_accel.specs.{Taken.AreTaken, Around.HasLevel, Around.staying}
use Rattle.rv_accel.proofs.around.add_levels.Goals as goal

pub loop-place-preserved : goal.loop-place-preserved
loop-place-preserved c given stand =
    let r = c.at.result.now in
    let l : c.loop-place.place < length c.args.downs.now = slice_get_within c.args.downs.now c.loop-place.place c.at.result.now c.at.ensures.value in
    let e : get_or c.args.downs.now c.loop-place.place c.at.result.now ≡ c.at.result.now =
    get_or_from_slice_get c.args.downs.now c.loop-place.place c.at.result.now c.at.result.now c.at.ensures.value in
    let zero_plus : c.loop-place.place ≡ 0 + c.loop-place.place = omega arith in
    let there = stand c.loop-place.place c.at.result.now l in
    levels-more (IsAround given c.args.course.updates.now c.args.course.steps.now) c.args.course.steps.now c.args.downs.now c.loop-place.place
    c.at.result.now l e
    c.args.list.now c.loop-place.list c.add_level.new.list (c.loop-place.invariant given stand)
    (c.in_ok-add_level.ensures given (let x = there.0 in omega arith) (ap (row_at given) zero_plus ∙ there.1 ∙ e))

pub returns : goal.returns
returns c given stand =
    let past = c.loop-place-test.false in
    let last = c.loop-place.auto.place-end in
    let size = c.len-place-end.ensures in
    let e : c.loop-place.place ≡ length c.args.downs.now = omega arith in
    subst (λ (rs : List Row). AreTaken (IsAround given c.args.course.updates.now c.args.course.steps.now)
    (HasLevel c.args.course.steps.now c.args.downs.now (length c.args.downs.now)) (Unit {0})
    (staying c.args.course.steps.now rs) c.args.list.now c.loop-place.list)
    (take-length c.args.downs.now)
    (subst (λ n. AreTaken (IsAround given c.args.course.updates.now c.args.course.steps.now) (HasLevel c.args.course.steps.now c.args.downs.now n) (Unit {0})
    (staying c.args.course.steps.now (take n c.args.downs.now)) c.args.list.now c.loop-place.list) e (c.loop-place.invariant given stand))
