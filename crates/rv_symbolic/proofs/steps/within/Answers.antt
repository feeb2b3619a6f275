use Rattle.std.proofs.Common.{◌&&◌}
use Rattle.rv_diagram.specs.Nodes.{Answers, value_of}
use Rattle.rv_diagram.proofs.Growing.{grows_extends}
use Rattle.rv_symbolic.proofs.Extending.{map_ok, both_made}
use Rattle.rv_symbolic.proofs.steps.within.Goals as goal

pub returns-clause-ok : goal.returns-clause-ok
returns-clause-ok c =
    map_ok c.and.result (λ r. Answers c.thaw.new.self c.and.new.self (λ v. value_of c.thaw.new.self.nodes c.args.allowed v && value_of
    c.thaw.new.self.nodes c.in_ok-set.set v) r) _
    (λ r t. both_made c.args.store.now c.thaw.new.self c.and.new.self c.args.allowed c.in_ok-set.set r
    (λ v. value_of c.args.store.now.nodes c.args.allowed v) (λ v. value_of c.args.from.now.nodes c.args.from.now.root v)
    (grows_extends c.args.store.now c.thaw.new.self c.in_ok-set.ensures.ok.grows) (λ v. c.in_ok-set.ensures.ok.grows.kept c.args.allowed
    c.requires.allowed v) c.in_ok-set.ensures.ok.means t)
    c.and.ensures.ok
