use Rattle.rv_types.proofs.Answered.{one_way}
use Rattle.rv_types.proofs.laws.one_settlement.Goals as goal

pub returns : goal.returns
returns c = one_way
