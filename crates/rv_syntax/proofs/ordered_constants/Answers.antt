use Rattle.rv_syntax.proofs.Ordered.{constants-before, constants-after}
use Rattle.rv_syntax.proofs.ordered_constants.Goals as goal

pub returns-clause-before : goal.returns-clause-before
returns-clause-before c = constants-before

pub returns-clause-after : goal.returns-clause-after
returns-clause-after c = constants-after
