use Rattle.std.proofs.Common.{◌&&◌}
use Rattle.rv_diagram.specs.Nodes.{Answers, value_of}
use Rattle.rv_symbolic.proofs.Extending.{map_ok}
use Rattle.rv_bits.specs.Bits.{is_same}
use Rattle.rv_bits.proofs.Making.{and_made}
use Rattle.rv_bits.proofs.bits.equal_too.Goals as goal

pub returns-clause-ok : goal.returns-clause-ok
returns-clause-ok c = map_ok c.and.result (Answers c.equal.new.store c.and.new.self
    (λ v. value_of c.equal.new.store.nodes c.args.same v && value_of c.equal.new.store.nodes c.in_ok-one.one v)) _
    (λ r t. and_made c.args.store.now c.equal.new.store c.and.new.self c.args.same c.in_ok-one.one r
    (λ v. is_same (value_of c.args.store.now.nodes c.args.a v) (value_of c.args.store.now.nodes c.args.b v)) c.requires.same c.in_ok-one.ensures.ok t)
    c.and.ensures.ok
