use Rattle.rv_syntax.proofs.Bounds.{bounded-text}
use Rattle.rv_syntax.proofs.bounded_tree.Goals as goal

pub returns : goal.returns
returns c = bounded-text
