use Rattle.std.proofs.{Common.◌≡◌, Common.◌∙◌, Common.sym, Common.subst, lemmas.Result.IfOk-weaker}
use Rattle.rv_rows.specs.{declared.linear.Form.Form, Arithmetic.form_sum, Forms.CanAdd}
use Rattle.rv_diagram.specs.Nodes.{Diagrams}
use Rattle.rv_terms.specs.{declared.parted.Term.Term, Parts.form_at, Parts.term_width, Parts.IsTerm, Parts.IsTermOf}
use Rattle.rv_tested.specs.Testing.{IsDifference}
use Rattle.rv_tested.proofs.Siding.{can_negate, can_subtract, is_difference}
use Rattle.rv_forms.proofs.Kept.{own_width, width_first}
use Rattle.rv_tested.proofs.testing.difference.Goals as goal

pub scale-requires-clause-a : goal.scale-requires-clause-a
scale-requires-clause-a c = own_width c.args.store.now.nodes c.requires.terms.0 c.args.second.now.parts c.requires.terms.2.term

pub scale-requires-clause-room : goal.scale-requires-clause-room
scale-requires-clause-room c v = can_negate c.args.store.now.nodes c.requires.terms.0 c.args.second.now.parts c.requires.terms.2 v

pub sum-requires-clause-a : goal.sum-requires-clause-a
sum-requires-clause-a c = subst (λ (d : Diagrams). IsTerm d.nodes (term_width c.args.first.now.parts) c.args.first.now.parts)
    (sym c.in_ok-negative.ensures.same) (own_width c.args.store.now.nodes c.requires.terms.0 c.args.first.now.parts c.requires.terms.1.term)

pub sum-requires-clause-b : goal.sum-requires-clause-b
sum-requires-clause-b c =
    let widths : term_width c.args.second.now.parts ≡ term_width c.args.first.now.parts =
    width_first c.args.store.now.nodes c.requires.terms.0 c.args.second.now.parts c.requires.terms.2.term
    ∙ sym (width_first c.args.store.now.nodes c.requires.terms.0 c.args.first.now.parts c.requires.terms.1.term) in
    subst (λ (d : Diagrams). IsTerm d.nodes (term_width c.args.first.now.parts) c.in_ok-negative.negative.parts) (sym c.in_ok-negative.ensures.same)
    (subst (λ n. IsTerm c.args.store.now.nodes n c.in_ok-negative.negative.parts) widths c.in_ok-negative.ensures.exact.term)

pub sum-requires-clause-room : goal.sum-requires-clause-room
sum-requires-clause-room c v =
    subst (λ (d : Diagrams). CanAdd (form_at d.nodes c.args.first.now.parts v) (form_at d.nodes c.in_ok-negative.negative.parts v))
    (sym c.in_ok-negative.ensures.same)
    (subst (λ (f : Form). CanAdd (form_at c.args.store.now.nodes c.args.first.now.parts v) f) (sym (c.in_ok-negative.ensures.exact.exact v))
    (can_subtract c.args.store.now.nodes c.requires.terms.0 c.args.first.now.parts c.args.second.now.parts c.requires.terms.1 c.requires.terms.2 v))

pub returns-clause-ok : goal.returns-clause-ok
returns-clause-ok c =
    let s = c.args.store.now in
    IfOk-weaker c.sum.result
    (λ (t : Term). IsTermOf c.sum.new.store.nodes (term_width c.args.first.now.parts)
    (λ v. form_sum (form_at c.scale.new.store.nodes c.args.first.now.parts v) (form_at c.scale.new.store.nodes c.in_ok-negative.negative.parts v)) t.parts)
    (IsDifference s.nodes c.sum.new.store.nodes c.args.first.now.parts c.args.second.now.parts)
    (λ t is. is_difference s c.sum.new.store c.requires.terms.0 c.args.first.now.parts c.args.second.now.parts c.in_ok-negative.negative t c.requires.terms.1
    c.requires.terms.2
    c.in_ok-negative.ensures.exact.exact
    (subst (λ (d : Diagrams). IsTermOf c.sum.new.store.nodes (term_width c.args.first.now.parts)
    (λ v. form_sum (form_at d.nodes c.args.first.now.parts v) (form_at d.nodes c.in_ok-negative.negative.parts v)) t.parts) c.in_ok-negative.ensures.same is))
    c.sum.ensures.exact
