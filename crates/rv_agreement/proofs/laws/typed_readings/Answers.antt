use Rattle.std.proofs.Common.{arith, length}
use Rattle.rv_agreement.proofs.{Controls.never_linear, Kinded.flows_read, Kinded.expressions_read, Kinded.memories_read}
use Rattle.rv_agreement.proofs.laws.typed_readings.Goals as goal

pub returns-clause-flows : goal.returns-clause-flows
returns-clause-flows c = λ s v symbolic k a well coded instant lt is. flows_read s v symbolic well coded instant k a lt is

pub returns-clause-memories : goal.returns-clause-memories
returns-clause-memories c = λ s v symbolic m well coded instant lt. memories_read s v symbolic well coded instant m lt

pub returns-clause-expressions : goal.returns-clause-expressions
returns-clause-expressions c = λ s v symbolic k j e well coded instant fit on. expressions_read s v symbolic well coded instant k j e fit on

pub returns-clause-controls : goal.returns-clause-controls
returns-clause-controls c = λ s v symbolic k j e well instant fit not. never_linear s v symbolic well instant (length s.flows) (omega arith) k j e fit not
