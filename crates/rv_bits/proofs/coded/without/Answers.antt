use Rattle.std.proofs.Common.{◌&&◌, not}
use Rattle.rv_diagram.specs.Nodes.{Answers, value_of}
use Rattle.rv_diagram.proofs.Growing.{grows_extends}
use Rattle.rv_symbolic.proofs.Extending.{map_ok}
use Rattle.rv_bits.proofs.Making.{and_made}
use Rattle.rv_bits.proofs.coded.without.Goals as goal

pub returns-clause-ok : goal.returns-clause-ok
returns-clause-ok c =
    let a = c.args.store.now in
    let b = c.not.new.self in
    map_ok c.and.result (Answers b c.and.new.self (λ v. value_of b.nodes c.args.all v && value_of b.nodes c.in_ok-off.off v)) _
    (λ r t. and_made a b c.and.new.self c.args.all c.in_ok-off.off r (λ v. not (value_of a.nodes c.args.one v)) c.requires.all
    (record { extends = grows_extends a b c.in_ok-off.ensures.ok.grows; found = c.in_ok-off.ensures.ok.found; means = c.in_ok-off.ensures.ok.means }) t)
    c.and.ensures.ok
