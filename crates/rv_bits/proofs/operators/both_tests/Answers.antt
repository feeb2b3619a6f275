use Rattle.std.proofs.Common.{◌&&◌, map}
use Rattle.rv_types.specs.Lists.{Test, AtMost, AtLeast}
use Rattle.rv_diagram.specs.Nodes.{Answers, value_of}
use Rattle.rv_flat.specs.Lists.{variable_of}
use Rattle.rv_control.specs.Named.{truth_at}
use Rattle.rv_symbolic.proofs.Extending.{map_ok}
use Rattle.rv_bits.proofs.Making.{both_made_of}
use Rattle.rv_bits.proofs.operators.both_tests.Goals as goal

pub returns-clause-ok : goal.returns-clause-ok
returns-clause-ok c =
    let a = c.args.store.now in
    let p = c.in_ok-at_most.at_most in
    let q = c.in_ok-at_least.at_least in
    map_ok c.and.result (Answers c.test-2.new.store c.and.new.self (λ v. value_of c.test-2.new.store.nodes p v && value_of c.test-2.new.store.nodes q v)) _
    (λ r t. both_made_of a c.test.new.store c.test-2.new.store c.and.new.self
    (λ v. truth_at (map variable_of c.args.variables.now) v (Test c.args.at.now.sites AtMost))
    (λ v. truth_at (map variable_of c.args.variables.now) v (Test c.args.at.now.sites AtLeast)) p q r c.in_ok-at_most.ensures.ok c.in_ok-at_least.ensures.ok t)
    c.and.ensures.ok
