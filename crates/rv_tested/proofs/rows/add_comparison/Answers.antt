use Rattle.std.proofs.{Common.◌≡◌, Common.◌∙◌, Common.false, Common.cond, Common.sym, Common.subst, Common.arith, lemmas.Option.get_or_from_slice_get}
use Rattle.rv_diagram.specs.{Nodes.IsRef, Nodes.value_of, Several.ref_at}
use Rattle.rv_diagram.proofs.Calls.{value_of-false}
use Rattle.rv_diagram.specs.Growing.{Extends}
use Rattle.rv_diagram.proofs.Growing.{extends_trans, grows_extends}
use Rattle.rv_rows.specs.Arithmetic.{test_row}
use Rattle.rv_control.specs.Tightening.{tightened}
use Rattle.rv_terms.specs.Parts.{form_at}
use Rattle.rv_terms.proofs.Combining.{covers_later, disjoint_later, form_later}
use Rattle.rv_tested.proofs.{Putting.laid_later, Putting.put_as, Comparing.compared_put}
use Rattle.rv_tested.proofs.rows.add_comparison.Goals as goal

pub returns-clause-extends : goal.returns-clause-extends
returns-clause-extends c =
    extends_trans c.args.store.now c.add_rows.new.store c.ite.new.self
    (extends_trans c.args.store.now c.and.new.self c.add_rows.new.store (grows_extends c.args.store.now c.and.new.self c.in_ok-here.ensures.ok.grows)
    c.in_ok-add_rows.ensures.extends)
    (grows_extends c.add_rows.new.store c.ite.new.self c.in_ok-left.ensures.ok.grows)

pub add_rows-requires-clause-disjoint : goal.add_rows-requires-clause-disjoint
add_rows-requires-clause-disjoint c = disjoint_later c.args.store.now c.and.new.self c.args.parts.now
    (grows_extends c.args.store.now c.and.new.self c.in_ok-here.ensures.ok.grows) c.requires.refs
    c.requires.disjoint

pub add_rows-requires-clause-covers : goal.add_rows-requires-clause-covers
add_rows-requires-clause-covers c = covers_later c.args.store.now c.and.new.self c.args.parts.now
    (grows_extends c.args.store.now c.and.new.self c.in_ok-here.ensures.ok.grows) c.requires.refs
    c.requires.covers

pub add_rows-requires-clause-laid : goal.add_rows-requires-clause-laid
add_rows-requires-clause-laid c = laid_later c.args.store.now c.and.new.self c.args.answers.now
    (grows_extends c.args.store.now c.and.new.self c.in_ok-here.ensures.ok.grows) c.requires.laid

pub returns-clause-answered : goal.returns-clause-answered
returns-clause-answered c =
    let s = c.args.store.now in
    let at : ref_at c.args.answers.now.refs 0 ≡ c.at-absent.result.now = get_or_from_slice_get c.args.answers.now.refs 0 c.at-absent.result.now 0
    c.at-absent.ensures.value in
    let absent : IsRef s.nodes c.at-absent.result.now =
    subst (IsRef s.nodes) at (c.requires.laid.found 0 (let h = c.requires.laid.size in omega (arith, h))) in
    let one : Extends s c.and.new.self = grows_extends s c.and.new.self c.in_ok-here.ensures.ok.grows in
    let two : Extends s c.add_rows.new.store = extends_trans s c.and.new.self c.add_rows.new.store one c.in_ok-add_rows.ensures.extends in
    compared_put s c.and.new.self c.add_rows.new.store c.ite.new.self c.at-absent.result.now c.args.there c.in_ok-here.here c.in_ok-left.left
    (λ v. tightened (test_row (value_of s.nodes c.args.truth v) (form_at s.nodes c.args.parts.now v)))
    c.args.answers.now c.add_rows.new.answers (record { refs = c.set.new.self; rows = c.add_rows.new.answers.rows })
    one c.in_ok-add_rows.ensures.extends (grows_extends c.add_rows.new.store c.ite.new.self c.in_ok-left.ensures.ok.grows) c.requires.laid (sym at)
    c.in_ok-here.ensures.ok.means
    (λ v. c.in_ok-left.ensures.ok.means v
    ∙ (λ i. cond (two.kept c.args.there c.requires.there v i) (value_of-false c.add_rows.new.store.nodes v i) (two.kept c.at-absent.result.now absent v i)))
    c.in_ok-left.ensures.ok.found
    (put_as c.and.new.self.nodes c.add_rows.new.store.nodes (value_of c.and.new.self.nodes c.in_ok-here.here)
    (value_of c.and.new.self.nodes c.in_ok-here.here)
    (λ v. tightened (test_row (value_of c.and.new.self.nodes c.args.truth v) (form_at c.and.new.self.nodes c.args.parts.now v)))
    (λ v. tightened (test_row (value_of s.nodes c.args.truth v) (form_at s.nodes c.args.parts.now v)))
    c.args.answers.now c.add_rows.new.answers c.in_ok-add_rows.ensures.put
    (λ v j. value_of c.and.new.self.nodes c.in_ok-here.here v)
    (λ v h j. tightened (test_row (one.kept c.args.truth c.requires.truth v j)
    (form_later s c.and.new.self c.args.parts.now v one c.requires.refs j))))
    c.set.ensures (λ j. c.add_rows.new.answers.rows)
