use Rattle.rv_walk.proofs.Joining.{grown_of}
use Rattle.rv_walk.proofs.sets.grow.Goals as goal

pub returns-clause-exact : goal.returns-clause-exact
returns-clause-exact c =
    grown_of c.args.store.now c.join_to.new.store c.args.reached c.args.next.now c.in_ok-joined.joined.fresh c.in_ok-joined.joined.all
    c.in_ok-take_fresh.field-0
    c.in_ok-joined.ensures.fresh c.in_ok-joined.ensures.all c.in_ok-take_fresh.ensures
