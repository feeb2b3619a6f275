use Rattle.rv_diagram.specs.Growing.{Extends}
use Rattle.rv_diagram.proofs.Growing.{extends_trans, grows_extends}
use Rattle.rv_symbolic.specs.Words.{LeadsAt}
use Rattle.rv_symbolic.proofs.{Wording.picked_first, Wording.leading_found}
use Rattle.rv_symbolic.proofs.words.first_leading.Goals as goal

pub returns-in_err-leading-clause-extends : goal.returns-in_err-leading-clause-extends
returns-in_err-leading-clause-extends c =
    extends_trans c.args.store.now c.and.new.self c.met.new.store
    (extends_trans c.args.store.now c.cube.new.store c.and.new.self
    (extends_trans c.args.store.now c.within.new.store c.cube.new.store c.within.ensures.extends c.cube.ensures.extends)
    (grows_extends c.cube.new.store c.and.new.self c.in_ok-both.ensures.ok.grows)) c.met.ensures.extends

pub returns-in_err-pick-clause-extends : goal.returns-in_err-pick-clause-extends
returns-in_err-pick-clause-extends c =
    extends_trans c.args.store.now c.and.new.self c.met.new.store
    (extends_trans c.args.store.now c.cube.new.store c.and.new.self
    (extends_trans c.args.store.now c.within.new.store c.cube.new.store c.within.ensures.extends c.cube.ensures.extends)
    (grows_extends c.cube.new.store c.and.new.self c.in_ok-both.ensures.ok.grows)) c.met.ensures.extends

pub returns-clause-extends : goal.returns-clause-extends
returns-clause-extends c =
    extends_trans c.args.store.now c.and.new.self c.met.new.store
    (extends_trans c.args.store.now c.cube.new.store c.and.new.self
    (extends_trans c.args.store.now c.within.new.store c.cube.new.store c.within.ensures.extends c.cube.ensures.extends)
    (grows_extends c.cube.new.store c.and.new.self c.in_ok-both.ensures.ok.grows)) c.met.ensures.extends

pub returns-clause-first : goal.returns-clause-first
returns-clause-first c =
    let whole : Extends c.args.store.now c.met.new.store = extends_trans c.args.store.now c.and.new.self c.met.new.store
    (extends_trans c.args.store.now c.cube.new.store c.and.new.self
    (extends_trans c.args.store.now c.within.new.store c.cube.new.store c.within.ensures.extends c.cube.ensures.extends)
    (grows_extends c.cube.new.store c.and.new.self c.in_ok-both.ensures.ok.grows)) c.met.ensures.extends in
    picked_first c.met.new.store c.in_ok-leading.leading c.args.store.now.variables
    (LeadsAt c.args.store.now.nodes c.args.allowed c.args.links.now c.args.from.now c.args.to.now c.args.bits) c.in_ok-pick.field-0 whole.variables
    (leading_found c.args.store.now c.within.new.store c.cube.new.store c.and.new.self c.met.new.store c.args.allowed c.in_ok-within.within
    c.in_ok-state.state c.in_ok-both.both c.in_ok-leading.leading c.args.bits c.args.links.now c.args.from.now c.args.to.now c.requires.links
    c.in_ok-within.ensures.ok c.in_ok-state.ensures.ok c.in_ok-both.ensures.ok c.in_ok-leading.ensures.ok) c.in_ok-pick.ensures
