use Rattle.std.proofs.Common.{◌||◌}
use Rattle.rv_diagram.specs.Nodes.{Answers, value_of}
use Rattle.rv_symbolic.proofs.Extending.{map_ok}
use Rattle.bench_walk.proofs.Chained.{seen_made}
use Rattle.bench_walk.proofs.links.seen.Goals as goal

pub returns : goal.returns
returns c =
    map_ok c.or.result (λ r. Answers c.variable.new.self c.or.new.self (λ v. value_of c.variable.new.self.nodes c.in_ok-input.input v || value_of
    c.variable.new.self.nodes c.in_ok-before.before v) r) _
    (λ r t. seen_made c.args.store.now c.held.new.store c.variable.new.self c.or.new.self c.args.n c.in_ok-before.before c.in_ok-input.input r
    c.in_ok-before.ensures c.in_ok-input.ensures.ok t)
    c.or.ensures.ok
