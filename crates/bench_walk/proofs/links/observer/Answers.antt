use Rattle.std.proofs.Common.{not}
use Rattle.rv_diagram.specs.Nodes.{Answers, value_of}
use Rattle.rv_symbolic.proofs.Extending.{map_ok}
use Rattle.bench_walk.proofs.Chained.{observer_made}
use Rattle.bench_walk.proofs.links.observer.Goals as goal

pub returns : goal.returns
returns c =
    map_ok c.not-2.result (λ r. Answers c.and.new.self c.not-2.new.self (λ v. not (value_of c.and.new.self.nodes c.in_ok-bad.bad v)) r) _
    (λ r t. observer_made c.args.store.now c.held.new.store c.seen.new.store c.not.new.self c.and.new.self c.not-2.new.self c.args.n
    c.in_ok-last.last c.in_ok-some.some c.in_ok-nothing.nothing c.in_ok-bad.bad r
    c.in_ok-last.ensures c.in_ok-some.ensures c.in_ok-nothing.ensures.ok c.in_ok-bad.ensures.ok t)
    c.not-2.ensures.ok
