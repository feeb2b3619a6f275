use Rattle.std.proofs.Common.{pos, refl}
use Rattle.rv_forms.proofs.Ranks.{constant_made}
use Rattle.rv_forms.proofs.constants.zero_term.Goals as goal

pub returns-clause-exact : goal.returns-clause-exact
returns-clause-exact c nodes = constant_made nodes c.args.columns (pos 0) (pos 0) c.in_ok-coefficients.coefficients c.in_ok-leaf.field-0.parts
    c.in_ok-coefficients.ensures refl (c.in_ok-leaf.ensures.exact nodes)
