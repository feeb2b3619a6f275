use Rattle.rv_types.proofs.{Joined.first_append, Joined.sooner_assoc, Meeting.meet_assoc}
use Rattle.rv_base.proofs.Lists.{next_of}
use Rattle.rv_types.proofs.pacing.+pace.Goals as goal

pub pace_of_all-loop-e-preserved : goal.pace_of_all-loop-e-preserved
pace_of_all-loop-e-preserved t c =
    let d = next_of c.args.es.now c.loop-e.e-index c.e-item.result c.loop-e-test.true c.e-item.is in
    let v = rw d at c.loop-e.invariant in
    record {
      pace = rw (c.one_more-found.ensures.pace, meet_assoc, c.pace_of-one.ensures.pace) v.pace;
      fault = rw (c.one_more-found.ensures.fault, sooner_assoc, c.pace_of-one.ensures.fault, ← first_append) v.fault;
    }
