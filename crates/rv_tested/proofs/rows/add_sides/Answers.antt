use Rattle.std.proofs.{Common.◌≡◌, Common.◌∙◌, Common.◌&&◌, Common.false, Common.cond, lemmas.Result.on_ok_weaker}
use Rattle.rv_diagram.specs.Nodes.{Valuation, value_of}
use Rattle.rv_diagram.proofs.Calls.{value_of-false}
use Rattle.rv_diagram.specs.Growing.{Extends}
use Rattle.rv_diagram.proofs.Growing.{extends_trans, grows_extends}
use Rattle.rv_tested.proofs.Comparing.{sides_put}
use Rattle.rv_tested.proofs.rows.add_sides.Goals as goal

pub returns-in_err-add_row_of-clause-extends : goal.returns-in_err-add_row_of-clause-extends
returns-in_err-add_row_of-clause-extends c =
    extends_trans c.args.store.now c.ite.new.self c.add_row_of.new.store
    (extends_trans c.args.store.now c.and-2.new.self c.ite.new.self
    (extends_trans c.args.store.now c.and.new.self c.and-2.new.self (grows_extends c.args.store.now c.and.new.self c.in_ok-there.ensures.ok.grows)
    (grows_extends c.and.new.self c.and-2.new.self c.in_ok-on.ensures.ok.grows))
    (grows_extends c.and-2.new.self c.ite.new.self c.in_ok-off.ensures.ok.grows))
    c.add_row_of.ensures.extends

pub returns-clause-extends : goal.returns-clause-extends
returns-clause-extends c =
    extends_trans c.args.store.now c.add_row_of.new.store c.add_row_of-2.new.store
    (extends_trans c.args.store.now c.ite.new.self c.add_row_of.new.store
    (extends_trans c.args.store.now c.and-2.new.self c.ite.new.self
    (extends_trans c.args.store.now c.and.new.self c.and-2.new.self (grows_extends c.args.store.now c.and.new.self c.in_ok-there.ensures.ok.grows)
    (grows_extends c.and.new.self c.and-2.new.self c.in_ok-on.ensures.ok.grows))
    (grows_extends c.and-2.new.self c.ite.new.self c.in_ok-off.ensures.ok.grows))
    c.in_ok-add_row_of.ensures.extends)
    c.add_row_of-2.ensures.extends

pub returns-clause-put : goal.returns-clause-put
returns-clause-put c =
    let s = c.args.store.now in
    let one : Extends s c.and.new.self = grows_extends s c.and.new.self c.in_ok-there.ensures.ok.grows in
    let two : Extends s c.and-2.new.self =
    extends_trans s c.and.new.self c.and-2.new.self one (grows_extends c.and.new.self c.and-2.new.self c.in_ok-on.ensures.ok.grows) in
    let three : Extends s c.ite.new.self =
    extends_trans s c.and-2.new.self c.ite.new.self two (grows_extends c.and-2.new.self c.ite.new.self c.in_ok-off.ensures.ok.grows) in
    let there : (v : Valuation) → value_of c.and-2.new.self.nodes c.in_ok-there.there v
    ≡ (value_of s.nodes c.args.here v && value_of s.nodes c.args.part.now.under v) =
    λ v. c.in_ok-on.ensures.ok.grows.kept c.in_ok-there.there c.in_ok-there.ensures.ok.found v ∙ c.in_ok-there.ensures.ok.means v in
    on_ok_weaker c.add_row_of-2.result
    (λ second. sides_put s c.ite.new.self c.add_row_of.new.store c.add_row_of-2.new.store c.args.part.now.form
    (λ v. value_of s.nodes c.args.here v && value_of s.nodes c.args.part.now.under v) (value_of s.nodes c.args.truth) c.in_ok-on.on c.in_ok-off.off
    c.args.answers.now c.add_row_of.new.answers c.add_row_of-2.new.answers three c.requires.laid
    (λ v. c.in_ok-off.ensures.ok.grows.kept c.in_ok-on.on c.in_ok-on.ensures.ok.found v ∙ c.in_ok-on.ensures.ok.means v
    ∙ (λ i. c.in_ok-there.ensures.ok.means v i && one.kept c.args.truth c.requires.truth v i))
    (λ v. c.in_ok-add_row_of.ensures.extends.kept c.in_ok-off.off c.in_ok-off.ensures.ok.found v ∙ c.in_ok-off.ensures.ok.means v
    ∙ (λ i. cond (two.kept c.args.truth c.requires.truth v i) (value_of-false c.and-2.new.self.nodes v i) (there v i)))
    c.in_ok-add_row_of.ensures.put second)
    c.add_row_of-2.ensures.put
