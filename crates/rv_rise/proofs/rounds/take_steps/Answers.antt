use Rattle.rv_rise.proofs.Growing.{grown_taken}
use Rattle.rv_rise.proofs.rounds.take_steps.Goals as goal

pub take_set-requires-clause-reached : goal.take_set-requires-clause-reached
take_set-requires-clause-reached c =
    let (s, f, is, frame, variables, kept, steps) = c.requires in
    let k = kept.control in
    rw variables k.ordered

pub take_set-requires-clause-set : goal.take_set-requires-clause-set
take_set-requires-clause-set c =
    let (s, f, is, frame, variables, kept, steps) = c.requires in
    let n = steps.next in
    let k = n.control in
    rw variables k.ordered

pub returns-clause-taken : goal.returns-clause-taken
returns-clause-taken c s f is frame variables kept steps =
    let n = steps.next in
    let took = c.in_ok-fresh.ensures.taken s variables kept.control n.control in
    grown_taken s is f frame c.args.claim.now c.take_set.new.claim c.take_limits.new.claim kept c.args.steps steps c.in_ok-fresh.fresh took
    c.take_limits.ensures.reached c.take_limits.ensures.limits c.take_limits.result c.take_limits.ensures.changed
