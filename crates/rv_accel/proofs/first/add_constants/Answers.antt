use Rattle.std.proofs.Common.{arith}
use Rattle.rv_accel.specs.{Turns.HasNoReset, Around.IsFirst}
use Rattle.rv_accel.proofs.{CountLemmas.counted-more, FirstLemmas.more-bounds}
use Rattle.rv_accel.proofs.first.add_constants.Goals as goal

pub loop-column-preserved : goal.loop-column-preserved
loop-column-preserved c = record {
  counts = λ own. counted-more c.args.course.steps.now 0 0 0 0 0 0 c.args.list.now c.loop-column.list c.add_constant.new.list
      (c.loop-column.invariant.counts own)
      (c.in_ok-add_constant.ensures.counts own) (omega arith) (omega arith);
  taken = λ given. more-bounds (IsFirst given c.args.course.updates.now c.args.course.steps.now) (HasNoReset c.args.course.updates.now) c.args.list.now
      c.loop-column.list c.add_constant.new.list (c.loop-column.invariant.taken given) (c.in_ok-add_constant.ensures.taken given);
}
