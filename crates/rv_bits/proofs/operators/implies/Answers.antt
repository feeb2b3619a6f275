use Rattle.rv_diagram.specs.Nodes.{Answers, choice}
use Rattle.rv_symbolic.proofs.Extending.{map_ok}
use Rattle.rv_bits.proofs.Making.{implies_made}
use Rattle.rv_bits.proofs.operators.implies.Goals as goal

pub returns-clause-ok : goal.returns-clause-ok
returns-clause-ok c = map_ok c.ite.result (Answers c.args.store.now c.ite.new.self (choice c.args.store.now.nodes c.args.a c.args.b 1)) _
    (λ r t. implies_made c.args.store.now c.ite.new.self c.args.a c.args.b r t)
    c.ite.ensures.ok
