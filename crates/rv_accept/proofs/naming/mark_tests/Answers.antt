use Rattle.rv_proofs.specs.Scopes.{after}
use Rattle.rv_accept.proofs.Ranged.{named_list, named_refutation}
use Rattle.rv_accept.proofs.naming.mark_tests.Goals as goal

pub returns-in-Dead : goal.returns-in-Dead
returns-in-Dead c = λ s x asked. rw c.in-Dead.is
    (named_refutation c.args.flags.now c.mark_weights.new.flags c.args.location.now.state c.in-Dead.by c.len.result
    c.len.ensures c.mark_weights.ensures)

pub returns-in-Go : goal.returns-in-Go
returns-in-Go c = λ s x asked. let d = rw c.in-Go.is at asked in
    rw (c.in-Go.is, d.1) (named_list c.args.flags.now c.mark_all_weights.new.flags after c.args.location.now.state d.0.entry c.in-Go.reach
    c.len-in-Go.result
    c.len-in-Go.ensures d.2.counts c.mark_all_weights.ensures)
