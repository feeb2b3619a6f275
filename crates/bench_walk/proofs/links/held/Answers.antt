use Rattle.std.proofs.Common.{◌&&◌}
use Rattle.rv_diagram.specs.Nodes.{Answers, value_of}
use Rattle.rv_symbolic.proofs.Extending.{map_ok}
use Rattle.bench_walk.proofs.Chained.{held_made}
use Rattle.bench_walk.proofs.links.held.Goals as goal

pub returns : goal.returns
returns c =
    map_ok c.and.result (λ r. Answers c.variable-2.new.self c.and.new.self (λ v. value_of c.variable-2.new.self.nodes c.in_ok-tick.tick v && value_of
    c.variable-2.new.self.nodes c.in_ok-before.before v) r) _
    (λ r t. held_made c.args.store.now c.variable.new.self c.variable-2.new.self c.and.new.self c.args.x c.in_ok-tick.tick c.in_ok-before.before r
    c.in_ok-tick.ensures.ok c.in_ok-before.ensures.ok t)
    c.and.ensures.ok
