use Rattle.rv_syntax.proofs.OneFault.{one-fault, no-tree}
use Rattle.rv_syntax.proofs.one_fault.Goals as goal

pub returns-clause-one : goal.returns-clause-one
returns-clause-one c = one-fault

pub returns-clause-no_tree : goal.returns-clause-no_tree
returns-clause-no_tree c = no-tree
