use Rattle.std.proofs.Common.{◌≡◌, ◌+◌, ◌<◌, length, get_or, arith, ◌∙◌, ap}
use Rattle.std.proofs.lemmas.Option.{get_or_from_slice_get, slice_get_within}
use Rattle.rv_rows.specs.Rows.{row_at}
use Rattle.rv_accel.specs.Around.{IsAround}
use Rattle.rv_accel.proofs.LoopLemmas.{sums-more}
use Rattle.std.proofs.Common.{subst, take, List}
use Rattle.std.proofs.Math.Seq.{take-length}
use Rattle.rv_rows.specs.declared.linear.Row.{Row}
use Rattle.rv_accel.specs.{Taken.AreTaken, Around.HasSums, Around.AreSmallSums, Around.losing}
use Rattle.rv_accel.proofs.around.add_sums.Goals as goal

pub loop-place-preserved : goal.loop-place-preserved
loop-place-preserved c given inside up_there stand =
    let l : c.loop-place.place < length c.args.downs.now = slice_get_within c.args.downs.now c.loop-place.place c.at.result.now c.at.ensures.value in
    let e : get_or c.args.downs.now c.loop-place.place c.at.result.now ≡ c.at.result.now =
    get_or_from_slice_get c.args.downs.now c.loop-place.place c.at.result.now c.at.result.now c.at.ensures.value in
    let zero_plus : c.loop-place.place ≡ 0 + c.loop-place.place = omega arith in
    let there = stand c.loop-place.place c.at.result.now l in
    sums-more (IsAround given c.args.course.updates.now c.args.course.steps.now) c.args.course.steps.now c.args.downs.now c.loop-place.place c.at.result.now l e
    c.args.list.now c.loop-place.list c.add_sum_below.new.list c.args.up.row.now (c.loop-place.invariant given inside up_there stand)
    (c.in_ok-add_sum_below.ensures given inside (let x = there.0 in omega arith) up_there (ap (row_at given) zero_plus ∙ there.1 ∙ e))

pub returns : goal.returns
returns c given inside up_there stand =
    let past = c.loop-place-test.false in
    let last = c.loop-place.auto.place-end in
    let size = c.len-place-end.ensures in
    let e : c.loop-place.place ≡ length c.args.downs.now = omega arith in
    subst (λ (rs : List Row). AreTaken (IsAround given c.args.course.updates.now c.args.course.steps.now)
    (HasSums c.args.course.steps.now c.args.up.row.now c.args.downs.now (length c.args.downs.now))
    (AreSmallSums c.args.course.steps.now c.args.up.row.now c.args.downs.now) (losing c.args.course.steps.now rs) c.args.list.now c.loop-place.list)
    (take-length c.args.downs.now)
    (subst (λ n. AreTaken (IsAround given c.args.course.updates.now c.args.course.steps.now)
    (HasSums c.args.course.steps.now c.args.up.row.now c.args.downs.now n)
    (AreSmallSums c.args.course.steps.now c.args.up.row.now c.args.downs.now) (losing c.args.course.steps.now (take n c.args.downs.now)) c.args.list.now
    c.loop-place.list) e (c.loop-place.invariant given inside up_there stand))
