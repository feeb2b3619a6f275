use Rattle.std.proofs.Common.{List, FitsSigned, rules, length, subst}
use Rattle.std.proofs.{lemmas.Int.to_z-of_z, lemmas.Result.IfOk-weaker}
use Rattle.std.specs.Int.{w128}
use Rattle.rv_diagram.specs.declared.Triple.{Triple}
use Rattle.rv_rows.specs.declared.linear.Form.{Form}
use Rattle.rv_terms.specs.{Parts.IsTermOf}
use Rattle.rv_ends.specs.Tops.{number_form}
use Rattle.rv_ends.proofs.sides.number_term.Goals as goal

pub returns : goal.returns
returns c =
    let fits : FitsSigned w128 c.args.number = search rules in
    let is = simp to_z-of_z at c.constant-form.ensures in
    IfOk-weaker c.leaf.result
    (λ t. (nodes : List Triple) → IsTermOf nodes (length c.constant-form.result.coefficients) (λ v. c.constant-form.result) t.parts)
    (λ t. (nodes : List Triple) → IsTermOf nodes 0 (λ v. number_form c.args.number) t.parts)
    (λ t h nodes. subst (λ (f : Form). IsTermOf nodes (length f.coefficients) (λ v. f) t.parts) is (h nodes))
    c.leaf.ensures.exact
