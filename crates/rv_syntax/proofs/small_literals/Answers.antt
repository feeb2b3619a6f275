use Rattle.rv_syntax.proofs.SmallLiterals.{small-text}
use Rattle.rv_syntax.proofs.small_literals.Goals as goal

pub returns : goal.returns
returns c = small-text
