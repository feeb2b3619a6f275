use Rattle.rv_syntax.proofs.FirstFault.{one-tree}
use Rattle.rv_syntax.proofs.one_tree.Goals as goal

pub returns : goal.returns
returns c = one-tree
