use Rattle.std.proofs.Common.{◌∙◌, ℕ, cond, ap, sym, subst, Option}
use Rattle.rv_diagram.specs.Nodes.{value_of}
use Rattle.rv_terms.specs.Parts.{form_at, IsTerm}
use Rattle.rv_bits.specs.Shown.{clock_bit}
use Rattle.rv_forms.specs.Terms.{GivesTerm}
use Rattle.rv_forms.proofs.{Kept.width_first, Steps.same_width, Steps.given_term, Steps.made_term, Steps.ok_with}
use Rattle.rv_forms.proofs.expressions.there_or.Goals as goal

pub choose-requires-clause-no : goal.choose-requires-clause-no
choose-requires-clause-no c =
    let d = c.args.store.now in
    let columns = c.requires.terms.0 in
    subst (λ n. IsTerm d.nodes n c.args.elsewhere.now.parts) (sym (width_first d.nodes columns c.args.body.parts c.requires.terms.3.term))
    c.requires.terms.4.term

pub returns-in-None-clause-ok : goal.returns-in-None-clause-ok
returns-in-None-clause-ok c columns other =
    let d = c.args.store.now in
    let k = c.requires.terms.0 in
    let body = c.args.body.parts in
    let elsewhere = c.args.elsewhere.now.parts in
    let same = same_width d.nodes k columns elsewhere c.requires.terms.4.term other in
    subst (λ n. GivesTerm d d n (λ v. cond (clock_bit d.nodes c.args.on.now c.args.clock v) (form_at d.nodes body v) (form_at d.nodes elsewhere v)) body) same
    (given_term d k c.requires.terms.1 (λ v. cond (clock_bit d.nodes c.args.on.now c.args.clock v) (form_at d.nodes body v) (form_at d.nodes elsewhere v)) body
    c.requires.terms.3
    (λ v. ap (λ (o : Option ℕ). cond (clock_bit d.nodes c.args.on.now o v) (form_at d.nodes body v) (form_at d.nodes elsewhere v)) (sym c.in-None.is)))

pub returns-in-Some-clause-ok : goal.returns-in-Some-clause-ok
returns-in-Some-clause-ok c =
    let d = c.args.store.now in
    let k = c.requires.terms.0 in
    let body = c.args.body.parts in
    let elsewhere = c.args.elsewhere.now.parts in
    ok_with c.choose.result _ _ _
    (λ u made grows columns other.
    made_term d c.choose.new.store _ columns (λ v. cond (value_of d.nodes c.ref_of.result v) (form_at d.nodes body v) (form_at d.nodes elsewhere v))
    (λ v. cond (clock_bit d.nodes c.args.on.now c.args.clock v) (form_at d.nodes body v) (form_at d.nodes elsewhere v)) u.parts grows made
    (width_first d.nodes k body c.requires.terms.3.term ∙ same_width d.nodes k columns elsewhere c.requires.terms.4.term other)
    (λ v. ap (λ r. cond (value_of d.nodes r v) (form_at d.nodes body v) (form_at d.nodes elsewhere v)) c.ref_of.ensures
    ∙ ap (λ (o : Option ℕ). cond (clock_bit d.nodes c.args.on.now o v) (form_at d.nodes body v) (form_at d.nodes elsewhere v)) (sym c.in-Some.is)))
    c.choose.ensures.exact c.choose.ensures.grows
