use Rattle.rv_control.proofs.Tightened.{tightened_is}
use Rattle.rv_control.proofs.laws.rows_are_tightened.Goals as goal

pub returns : goal.returns
returns c = tightened_is
