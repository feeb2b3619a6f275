use Rattle.std.proofs.Common.{not, map}
use Rattle.rv_diagram.specs.Nodes.{Answers, value_of}
use Rattle.rv_flat.specs.Lists.{variable_of}
use Rattle.rv_symbolic.proofs.Extending.{map_ok}
use Rattle.rv_bits.specs.Operators.{same_by}
use Rattle.rv_bits.proofs.Making.{not_made}
use Rattle.rv_bits.proofs.operators.differs.Goals as goal

pub returns-clause-ok : goal.returns-clause-ok
returns-clause-ok c = map_ok c.not.result (Answers c.same.new.store c.not.new.self (λ v. not (value_of c.same.new.store.nodes c.in_ok-found.found v))) _
    (λ r t. not_made c.args.store.now c.same.new.store c.not.new.self (same_by c.args.store.now.nodes (map variable_of c.args.variables.now) c.args.at.now.sites
    c.args.left.now c.args.right.now) c.in_ok-found.found r c.in_ok-found.ensures.ok t)
    c.not.ensures.ok
