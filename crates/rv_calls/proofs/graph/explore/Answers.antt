use Rattle.std.proofs.{Common.false, Common.◌∙◌, lemmas.Option.get_or_from_slice_get}
use Rattle.rv_calls.proofs.Walks.{left_step, went_step, met, loop_step}
use Rattle.rv_calls.proofs.graph.explore.Goals as goal

pub loop-top-smaller-in_ok-leave-in-None : goal.loop-top-smaller-in_ok-leave-in-None
loop-top-smaller-in_ok-leave-in-None c =
    (left_step c.args.graph.now c.requires.vertices c.loop-top.walk c.loop-top.invariant.walk c.in-Some.top c.in-Some.ensures.some.0 c.in-Some.ensures.some.1
    c.next_unfinished.new.self c.leave.new.self c.in-None.ensures c.in_ok-leave-in-None.ensures).2

pub loop-top-preserved-in_ok-leave-in-None : goal.loop-top-preserved-in_ok-leave-in-None
loop-top-preserved-in_ok-leave-in-None c =
    let step = left_step c.args.graph.now c.requires.vertices c.loop-top.walk c.loop-top.invariant.walk c.in-Some.top c.in-Some.ensures.some.0
    c.in-Some.ensures.some.1
    c.next_unfinished.new.self c.leave.new.self c.in-None.ensures c.in_ok-leave-in-None.ensures in
    record { walk = step.0; kept = λ k e. step.1 k (c.loop-top.invariant.kept k e) }

pub loop_from-requires : goal.loop_from-requires
loop_from-requires c =
    met c.args.graph.now c.requires.vertices c.loop-top.walk c.loop-top.invariant.walk c.in-Some.top c.in-Some.ensures.some.0 c.in-Some.ensures.some.1
    c.next_unfinished.new.self c.in-Some-next_unfinished.child c.in-Some-next_unfinished.ensures
    (get_or_from_slice_get c.next_unfinished.new.self.entered c.in-Some-next_unfinished.child c.at.result.now false c.at.ensures.value ∙ c.if-at.true)

pub returns-then-at-clause-found : goal.returns-then-at-clause-found
returns-then-at-clause-found c =
    let from = c.in_ok-loop_from-in-Some-next_unfinished.ensures in
    loop_step c.args.graph.now c.requires.vertices c.loop-top.walk c.loop-top.invariant.walk c.in-Some.top c.in-Some.ensures.some.0 c.in-Some.ensures.some.1
    c.next_unfinished.new.self c.in-Some-next_unfinished.child from.0 c.in_ok-loop_from-in-Some-next_unfinished.field-0 c.in-Some-next_unfinished.ensures from.1
    from.2 from.3

pub loop-top-smaller : goal.loop-top-smaller
loop-top-smaller c =
    (went_step c.args.graph.now c.requires.vertices c.loop-top.walk c.loop-top.invariant.walk c.in-Some.top c.in-Some.ensures.some.0 c.in-Some.ensures.some.1
    c.next_unfinished.new.self c.enter.new.self c.in-Some-next_unfinished.child c.in-Some-next_unfinished.ensures
    (get_or_from_slice_get c.next_unfinished.new.self.entered c.in-Some-next_unfinished.child c.at.result.now false c.at.ensures.value ∙ c.if-at.false)
    c.in_ok-enter-in-Some-next_unfinished.ensures).2

pub loop-top-preserved : goal.loop-top-preserved
loop-top-preserved c =
    let step = went_step c.args.graph.now c.requires.vertices c.loop-top.walk c.loop-top.invariant.walk c.in-Some.top c.in-Some.ensures.some.0
    c.in-Some.ensures.some.1
    c.next_unfinished.new.self c.enter.new.self c.in-Some-next_unfinished.child c.in-Some-next_unfinished.ensures
    (get_or_from_slice_get c.next_unfinished.new.self.entered c.in-Some-next_unfinished.child c.at.result.now false c.at.ensures.value ∙ c.if-at.false)
    c.in_ok-enter-in-Some-next_unfinished.ensures in
    record { walk = step.0; kept = λ k e. step.1 k (c.loop-top.invariant.kept k e) }
