use Rattle.std.proofs.{Common.◌≡◌, Common.◌↔◌, Common.◌∙◌, Common.get_or, Common.subst, Common.sym, Common.true, lemmas.List.get_or_read}
use Rattle.rv_diagram.specs.Nodes.{value_of}
use Rattle.rv_terms.specs.{Parts.part_at, Parts.form_at, Parts.no_form, declared.parted.Part.Part}
use Rattle.rv_rows.specs.declared.linear.Form.{Form}
use Rattle.rv_terms.proofs.Classes.{part_iff, none_iff}
use Rattle.rv_terms.proofs.calls.under_of.Goals as goal

pub returns-in-Some-clause-means : goal.returns-in-Some-clause-means
returns-in-Some-clause-means c nodes width v t =
    let is : c.index-parts-i.result ≡ part_at c.args.parts.now c.in-Some.i =
    get_or_read c.args.parts.now c.in-Some.i c.index-parts-i.result c.in-Some.ensures.0 c.index-parts-i.is (record { under = 0; form = no_form }) in
    let held : c.index-parts-i.result ≡ get_or c.args.parts.now c.in-Some.i c.index-parts-i.result =
    get_or_read c.args.parts.now c.in-Some.i c.index-parts-i.result c.in-Some.ensures.0 c.index-parts-i.is c.index-parts-i.result in
    subst (λ (f : Form). (value_of nodes (get_or c.args.parts.now c.in-Some.i c.index-parts-i.result).under v ≡ true) ↔
    (form_at nodes c.args.parts.now v ≡ f)) c.in-Some.ensures.1
    (subst (λ (x : Part). (value_of nodes x.under v ≡ true) ↔ (form_at nodes c.args.parts.now v ≡ (part_at c.args.parts.now c.in-Some.i).form)) (sym is ∙ held)
    (part_iff nodes width c.args.parts.now c.in-Some.i v t c.in-Some.ensures.0))

pub returns-in-None-clause-means : goal.returns-in-None-clause-means
returns-in-None-clause-means c nodes width v t = none_iff nodes width c.args.parts.now c.args.form.now v t c.in-None.ensures
