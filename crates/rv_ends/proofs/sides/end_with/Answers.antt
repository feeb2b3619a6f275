use Rattle.std.proofs.Common.{ap, cond, FitsSigned, rules}
use Rattle.std.proofs.{lemmas.Int.to_z-of_z, lemmas.Result.IfOk-weaker}
use Rattle.std.specs.Int.{w128}
use Rattle.rv_diagram.specs.Nodes.{Valuation, value_of}
use Rattle.rv_rows.specs.declared.linear.Form.{Form}
use Rattle.rv_terms.specs.{Parts.form_at, Parts.IsTermOf, Parts.term_width}
use Rattle.rv_ends.specs.Tops.{number_form}
use Rattle.rv_ends.proofs.Sided.{as_wide, as_narrow, term_same}
use Rattle.rv_ends.proofs.sides.end_with.Goals as goal

pub choose-requires-clause-yes : goal.choose-requires-clause-yes
choose-requires-clause-yes c =
    as_wide c.args.store.now.nodes c.in_ok-number.number.parts c.in_ok-number.number.parts (c.in_ok-number.ensures c.args.store.now.nodes).term
    (c.in_ok-number.ensures c.args.store.now.nodes).term

pub choose-requires-clause-no : goal.choose-requires-clause-no
choose-requires-clause-no c =
    as_wide c.args.store.now.nodes c.in_ok-number.number.parts c.args.side.now.end.parts (c.in_ok-number.ensures c.args.store.now.nodes).term c.requires.side

pub returns-clause-exact : goal.returns-clause-exact
returns-clause-exact c =
    let fits : FitsSigned w128 c.args.bound = search rules in
    let number = simp to_z-of_z at (c.in_ok-number.ensures c.args.store.now.nodes) in
    let old = c.args.store.now.nodes in
    let f : Valuation → Form = λ v. cond (value_of old c.args.taken v) (form_at old c.in_ok-number.number.parts v) (form_at old c.args.side.now.end.parts v) in
    let g : Valuation → Form = λ v. cond (value_of old c.args.taken v) (number_form c.args.bound) (form_at old c.args.side.now.end.parts v) in
    IfOk-weaker c.choose.result
    (λ t. IsTermOf c.choose.new.store.nodes (term_width c.in_ok-number.number.parts) f t.parts)
    (λ t. IsTermOf c.choose.new.store.nodes 0 g t.parts)
    (λ t h. term_same c.choose.new.store.nodes t.parts f g
    (λ v. ap (λ (x : Form). cond (value_of old c.args.taken v) x (form_at old c.args.side.now.end.parts v)) (number.exact v))
    (as_narrow c.choose.new.store.nodes old c.in_ok-number.number.parts t.parts f number.term h))
    c.choose.ensures.exact
