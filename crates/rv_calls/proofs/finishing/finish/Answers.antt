use Rattle.rv_calls.proofs.Depths.{went_step}
use Rattle.rv_calls.proofs.finishing.finish.Goals as goal

pub loop-top-smaller : goal.loop-top-smaller
loop-top-smaller c =
    (went_step c.args.graph.now c.loop-top.walk c.loop-top.invariant c.next_new.new.self c.in-Some-next_new.ensures.same c.in-Some-next_new.ensures.cursor
    c.in-Some-next_new.child c.enter-in-Some-next_new.new.self c.in-Some-next_new.ensures.some.0 c.in-Some-next_new.ensures.some.1
    c.in_ok-enter-in-Some-next_new.ensures).1

pub loop-top-preserved : goal.loop-top-preserved
loop-top-preserved c =
    (went_step c.args.graph.now c.loop-top.walk c.loop-top.invariant c.next_new.new.self c.in-Some-next_new.ensures.same c.in-Some-next_new.ensures.cursor
    c.in-Some-next_new.child c.enter-in-Some-next_new.new.self c.in-Some-next_new.ensures.some.0 c.in-Some-next_new.ensures.some.1
    c.in_ok-enter-in-Some-next_new.ensures).0
