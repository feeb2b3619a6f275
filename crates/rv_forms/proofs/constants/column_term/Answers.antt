use Rattle.rv_forms.proofs.Ranks.{column_made}
use Rattle.rv_forms.proofs.constants.column_term.Goals as goal

pub returns-clause-exact : goal.returns-clause-exact
returns-clause-exact c nodes = column_made nodes c.args.columns c.args.column c.in_ok-coefficients.coefficients c.in_ok-leaf.field-0.parts
    c.in_ok-coefficients.ensures (c.in_ok-leaf.ensures.exact nodes)
