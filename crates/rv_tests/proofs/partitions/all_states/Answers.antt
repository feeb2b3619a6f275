use Rattle.std.proofs.Common.{arith}
use Rattle.rv_tests.proofs.Listed.{constant-set, constant-some}
use Rattle.rv_tests.proofs.partitions.all_states.Goals as goal

pub returns-clause-set : goal.returns-clause-set
returns-clause-set c m state = constant-set m state c.new.result 1 c.new.ensures (omega arith)

pub returns-clause-some : goal.returns-clause-some
returns-clause-some c = constant-some c.new.result
