use Rattle.rv_diagram.specs.Nodes.{Answers, choice}
use Rattle.rv_symbolic.proofs.Extending.{map_ok}
use Rattle.rv_bits.proofs.Making.{exclusive_made}
use Rattle.rv_bits.proofs.operators.exclusive.Goals as goal

pub returns-clause-ok : goal.returns-clause-ok
returns-clause-ok c = map_ok c.ite.result (Answers c.not.new.self c.ite.new.self (choice c.not.new.self.nodes c.args.a c.in_ok-not_b.not_b c.args.b)) _
    (λ r t. exclusive_made c.args.store.now c.not.new.self c.ite.new.self c.args.a c.args.b c.in_ok-not_b.not_b r c.requires.a c.requires.b
    c.in_ok-not_b.ensures.ok t)
    c.ite.ensures.ok
