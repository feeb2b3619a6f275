use Rattle.std.proofs.Common.{not}
use Rattle.rv_diagram.specs.Nodes.{Answers, value_of}
use Rattle.rv_symbolic.proofs.Extending.{map_ok}
use Rattle.bench_walk.proofs.Chained.{initial_made}
use Rattle.bench_walk.proofs.links.initial.Goals as goal

pub returns : goal.returns
returns c =
    map_ok c.not.result (λ r. Answers c.variable.new.self c.not.new.self (λ v. not (value_of c.variable.new.self.nodes c.in_ok-tick.tick v)) r) _
    (λ r t. initial_made c.args.store.now c.variable.new.self c.not.new.self c.in_ok-tick.tick r c.in_ok-tick.ensures.ok t)
    c.not.ensures.ok
