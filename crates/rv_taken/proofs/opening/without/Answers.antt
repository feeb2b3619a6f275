use Rattle.std.proofs.Common.{◌&&◌, not}
use Rattle.rv_diagram.specs.Nodes.{value_of, Answers, IsMeant}
use Rattle.rv_diagram.proofs.Growing.{extends_trans, grows_extends, call_extends}
use Rattle.rv_symbolic.proofs.Extending.{map_ok}
use Rattle.rv_taken.proofs.Meetings.{without_made}
use Rattle.rv_taken.proofs.opening.without.Goals as goal

pub returns-clause-exact : goal.returns-clause-exact
returns-clause-exact c =
    map_ok c.and-2.result
    (Answers c.not.new.self c.and-2.new.self (λ v. value_of c.not.new.self.nodes c.args.whole v && value_of c.not.new.self.nodes c.in_ok-rest.rest v))
    (IsMeant c.and-2.new.self.nodes (λ v. value_of c.args.store.now.nodes c.args.whole v
    && not (value_of c.args.store.now.nodes c.args.one v && value_of c.args.store.now.nodes c.args.other v)))
    (λ r t. without_made c.args.store.now c.and.new.self c.not.new.self c.and-2.new.self c.args.whole c.args.one c.args.other c.in_ok-both.both
    c.in_ok-rest.rest r c.requires.whole c.in_ok-both.ensures.ok c.in_ok-rest.ensures.ok t)
    c.and-2.ensures.ok

pub returns-clause-extends : goal.returns-clause-extends
returns-clause-extends c =
    extends_trans c.args.store.now c.not.new.self c.and-2.new.self
    (extends_trans c.args.store.now c.and.new.self c.not.new.self (grows_extends c.args.store.now c.and.new.self c.in_ok-both.ensures.ok.grows)
    (grows_extends c.and.new.self c.not.new.self c.in_ok-rest.ensures.ok.grows))
    (call_extends c.not.new.self c.and-2.new.self
    (λ v. value_of c.not.new.self.nodes c.args.whole v && value_of c.not.new.self.nodes c.in_ok-rest.rest v) c.and-2.result c.and-2.ensures.ok
    c.and-2.ensures.err)
