use Rattle.rv_proofs.proofs.Tightened.{tight_unit}
use Rattle.rv_proofs.proofs.control.tightened_ends.Goals as goal

pub returns : goal.returns
returns c = tight_unit
