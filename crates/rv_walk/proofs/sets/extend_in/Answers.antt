use Rattle.rv_walk.proofs.Joining.{extended_of}
use Rattle.rv_walk.proofs.sets.extend_in.Goals as goal

pub returns-clause-exact : goal.returns-clause-exact
returns-clause-exact c =
    extended_of c.args.store.now c.join.new.store c.args.reached.now c.args.next.now c.in_ok-joined.joined.fresh c.in_ok-joined.joined.all
    c.in_ok-take_sets.field-0
    c.in_ok-joined.ensures.fresh c.in_ok-joined.ensures.all c.in_ok-take_sets.ensures
