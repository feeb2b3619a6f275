use Rattle.rv_diagram.specs.Nodes.{value_of}
use Rattle.rv_symbolic.specs.Growing.{Makes}
use Rattle.rv_symbolic.proofs.Extending.{map_ok}
use Rattle.rv_walk.specs.Extended.{fresh_in, either_in}
use Rattle.rv_walk.proofs.Joining.{join_fresh, join_all}
use Rattle.rv_walk.proofs.sets.join.Goals as goal

pub returns-clause-fresh : goal.returns-clause-fresh
returns-clause-fresh c =
    map_ok c.join_to.result
    (λ j. Makes c.thaw.new.self c.join_to.new.store (fresh_in (value_of c.thaw.new.self.nodes c.in_ok-before.before) c.args.next.now) j.fresh) _
    (λ j m. join_fresh c.args.store.now c.thaw.new.self c.join_to.new.store c.args.reached.now c.args.next.now c.in_ok-before.before j.fresh
    c.in_ok-before.ensures.ok m)
    c.join_to.ensures.fresh

pub returns-clause-all : goal.returns-clause-all
returns-clause-all c =
    map_ok c.join_to.result
    (λ j. Makes c.thaw.new.self c.join_to.new.store (either_in (value_of c.thaw.new.self.nodes c.in_ok-before.before) c.args.next.now) j.all) _
    (λ j m. join_all c.args.store.now c.thaw.new.self c.join_to.new.store c.args.reached.now c.args.next.now c.in_ok-before.before j.all
    c.in_ok-before.ensures.ok m)
    c.join_to.ensures.all
