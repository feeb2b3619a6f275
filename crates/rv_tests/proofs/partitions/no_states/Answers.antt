use Rattle.std.proofs.Common.{arith}
use Rattle.rv_tests.proofs.Listed.{constant-set}
use Rattle.rv_tests.proofs.partitions.no_states.Goals as goal

pub returns : goal.returns
returns c m state = constant-set m state c.new.result 0 c.new.ensures (omega arith)
