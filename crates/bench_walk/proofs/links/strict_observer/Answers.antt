use Rattle.std.proofs.Common.{not}
use Rattle.rv_diagram.specs.Nodes.{Answers, value_of}
use Rattle.rv_symbolic.proofs.Extending.{map_ok}
use Rattle.bench_walk.proofs.Chained.{strict_made}
use Rattle.bench_walk.proofs.links.strict_observer.Goals as goal

pub returns : goal.returns
returns c =
    map_ok c.not.result (λ r. Answers c.held.new.store c.not.new.self (λ v. not (value_of c.held.new.store.nodes c.in_ok-last.last v)) r) _
    (λ r t. strict_made c.args.store.now c.held.new.store c.not.new.self c.args.n c.in_ok-last.last r c.in_ok-last.ensures t)
    c.not.ensures.ok
