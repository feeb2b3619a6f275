use Rattle.rv_types.proofs.Meeting.{meet_assoc}
use Rattle.rv_base.proofs.Lists.{next_of}
use Rattle.rv_types.proofs.clocks.pace_of_lefts.Goals as goal

pub loop-left-preserved : goal.loop-left-preserved
loop-left-preserved c =
    let d = next_of c.args.lefts.now c.loop-left.left-index c.left-item.result c.loop-left-test.true c.left-item.is in
    let v = rw d at c.loop-left.invariant in
    rw (c.met-pace.ensures, meet_assoc, c.pace_of_name.ensures) v
