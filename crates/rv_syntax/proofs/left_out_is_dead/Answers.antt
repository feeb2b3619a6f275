use Rattle.rv_syntax.proofs.Placed.{left-out-dead}
use Rattle.rv_syntax.proofs.left_out_is_dead.Goals as goal

pub returns : goal.returns
returns c = left-out-dead
