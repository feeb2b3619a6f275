use Rattle.rv_syntax.proofs.FirstFault.{tree-or-fault}
use Rattle.rv_syntax.proofs.tree_or_fault.Goals as goal

pub returns : goal.returns
returns c = tree-or-fault
