use Rattle.std.proofs.Common.{◌∙◌, ◌||◌, ◌^◌, ap, cond, FitsSigned, rules}
use Rattle.std.proofs.lemmas.Int.{to_z-of_z}
use Rattle.std.specs.Int.{w128}
use Rattle.rv_diagram.specs.{Nodes.value_of, Growing.Extends}
use Rattle.rv_diagram.proofs.Growing.{extends_trans, grows_extends, call_extends}
use Rattle.rv_rows.specs.declared.linear.Form.{Form}
use Rattle.rv_terms.specs.Parts.{form_at}
use Rattle.rv_terms.proofs.Combining.{term_later, form_later}
use Rattle.rv_ends.specs.Tops.{number_form}
use Rattle.rv_ends.proofs.Sided.{side_from}
use Rattle.rv_ends.proofs.Tightening.{tight_exact, tight_small}
use Rattle.rv_ends.proofs.sides.tighten.Goals as goal

pub end_with-requires-clause-side : goal.end_with-requires-clause-side
end_with-requires-clause-side c =
    term_later c.args.store.now c.taken_where.new.store 0 c.args.side.now.end.parts c.in_ok-taken.ensures.extends c.requires.side.term

pub returns-in_err-there-clause-extends : goal.returns-in_err-there-clause-extends
returns-in_err-there-clause-extends c =
    extends_trans c.args.store.now c.end_with.new.store c.or.new.self
    (extends_trans c.args.store.now c.taken_where.new.store c.end_with.new.store c.in_ok-taken.ensures.extends c.in_ok-end.ensures.extends)
    (call_extends c.end_with.new.store c.or.new.self
    (λ v. value_of c.end_with.new.store.nodes c.args.side.now.there v || value_of c.end_with.new.store.nodes c.args.under v)
    c.or.result c.or.ensures.ok c.or.ensures.err)

pub returns-clause-extends : goal.returns-clause-extends
returns-clause-extends c =
    extends_trans c.args.store.now c.end_with.new.store c.or.new.self
    (extends_trans c.args.store.now c.taken_where.new.store c.end_with.new.store c.in_ok-taken.ensures.extends c.in_ok-end.ensures.extends)
    (grows_extends c.end_with.new.store c.or.new.self c.in_ok-there.ensures.ok.grows)

pub returns-clause-side : goal.returns-clause-side
returns-clause-side c =
    let fits : FitsSigned w128 c.args.bound = search rules in
    let end = simp to_z-of_z at c.in_ok-end.ensures.exact in
    let last : Extends c.end_with.new.store c.or.new.self = grows_extends c.end_with.new.store c.or.new.self c.in_ok-there.ensures.ok.grows in
    let mid = c.taken_where.new.store.nodes in
    let side = c.args.side.now in
    side_from c.or.new.self.nodes (2 ^ 60) (record { there = c.in_ok-there.there; end = c.in_ok-end.end })
    (λ v. cond (value_of mid c.in_ok-taken.taken v) (number_form c.args.bound) (form_at c.args.store.now.nodes side.end.parts v))
    c.in_ok-there.ensures.ok.found
    (term_later c.end_with.new.store c.or.new.self 0 c.in_ok-end.end.parts last end.term)
    (λ v. form_later c.end_with.new.store c.or.new.self c.in_ok-end.end.parts v last end.term.refs ∙ end.exact v
    ∙ ap (λ (f : Form). cond (value_of mid c.in_ok-taken.taken v) (number_form c.args.bound) f)
    (form_later c.args.store.now c.taken_where.new.store side.end.parts v c.in_ok-taken.ensures.extends c.requires.side.term.refs))
    (λ v. tight_small (value_of mid c.in_ok-taken.taken v) (2 ^ 60) c.args.bound (form_at c.args.store.now.nodes side.end.parts v) c.requires.bound
    (c.requires.side.small v))

pub returns-clause-exact : goal.returns-clause-exact
returns-clause-exact c v =
    let fits : FitsSigned w128 c.args.bound = search rules in
    let end = simp to_z-of_z at c.in_ok-end.ensures.exact in
    let taken = simp to_z-of_z at c.in_ok-taken.ensures.exact in
    let last : Extends c.end_with.new.store c.or.new.self = grows_extends c.end_with.new.store c.or.new.self c.in_ok-there.ensures.ok.grows in
    let first : Extends c.args.store.now c.end_with.new.store = extends_trans c.args.store.now c.taken_where.new.store c.end_with.new.store
    c.in_ok-taken.ensures.extends c.in_ok-end.ensures.extends in
    let mid = c.taken_where.new.store.nodes in
    let side = c.args.side.now in
    tight_exact c.args.store.now.nodes mid c.or.new.self.nodes side (record { there = c.in_ok-there.there; end = c.in_ok-end.end }) c.args.under
    c.in_ok-taken.taken c.args.bound v
    (c.in_ok-there.ensures.ok.means v ∙ ap (λ b. b || value_of c.end_with.new.store.nodes c.args.under v) (first.kept side.there c.requires.side.there v)
    ∙ ap (λ b. value_of c.args.store.now.nodes side.there v || b) (first.kept c.args.under c.requires.under v))
    (form_later c.end_with.new.store c.or.new.self c.in_ok-end.end.parts v last end.term.refs ∙ end.exact v
    ∙ ap (λ (f : Form). cond (value_of mid c.in_ok-taken.taken v) (number_form c.args.bound) f)
    (form_later c.args.store.now c.taken_where.new.store side.end.parts v c.in_ok-taken.ensures.extends c.requires.side.term.refs))
    (taken v)
