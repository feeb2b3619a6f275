use Rattle.rv_flat.proofs.OneRow.{one_row}
use Rattle.rv_flat.proofs.laws.one_flat_instant.Goals as goal

pub returns : goal.returns
returns c = one_row
