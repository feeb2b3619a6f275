use Rattle.std.proofs.{Common.◌∙◌, Common.rules, Common.FitsSigned, Common.to_z, Common.of_z, lemmas.Int.to_z-of_z}
use Rattle.std.specs.Int.{w128}
use Rattle.rv_meaning.specs.Meaning.{number as whole_number}
use Rattle.rv_forms.proofs.Ranks.{constant_made}
use Rattle.rv_forms.proofs.constants.constant_term.Goals as goal

pub returns-clause-exact : goal.returns-clause-exact
returns-clause-exact c nodes =
    let fits : FitsSigned w128 c.number_of.result = search rules in
    constant_made nodes c.args.columns (to_z w128 (of_z w128 c.number_of.result)) (whole_number c.args.constant.now) c.in_ok-coefficients.coefficients
    c.in_ok-leaf.field-0.parts c.in_ok-coefficients.ensures (to_z-of_z w128 c.number_of.result fits ∙ c.number_of.ensures) (c.in_ok-leaf.ensures.exact nodes)
