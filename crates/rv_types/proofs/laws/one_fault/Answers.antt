use Rattle.rv_types.specs.Settled.{groups}
use Rattle.rv_types.proofs.OneFault.{one_of_groups}
use Rattle.rv_types.proofs.laws.one_fault.Goals as goal

pub returns : goal.returns
returns c = λ p main f g a b. one_of_groups (groups p main) f g a b
