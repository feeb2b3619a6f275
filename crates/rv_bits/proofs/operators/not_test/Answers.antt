use Rattle.std.proofs.Common.{not, map}
use Rattle.rv_types.specs.Lists.{Test}
use Rattle.rv_diagram.specs.Nodes.{Answers, value_of}
use Rattle.rv_flat.specs.Lists.{side_of, variable_of}
use Rattle.rv_control.specs.Named.{truth_at}
use Rattle.rv_symbolic.proofs.Extending.{map_ok}
use Rattle.rv_bits.proofs.Making.{not_made}
use Rattle.rv_bits.proofs.operators.not_test.Goals as goal

pub returns-clause-ok : goal.returns-clause-ok
returns-clause-ok c = map_ok c.not.result (Answers c.test.new.store c.not.new.self (λ v. not (value_of c.test.new.store.nodes c.in_ok-found.found v))) _
    (λ r t. not_made c.args.store.now c.test.new.store c.not.new.self (λ v. truth_at (map variable_of c.args.variables.now) v
    (Test c.args.at.now.sites (side_of c.args.side))) c.in_ok-found.found r c.in_ok-found.ensures.ok t)
    c.not.ensures.ok
