use Rattle.std.proofs.Common.{Ok, ap}
use Rattle.rv_run.proofs.judge.late.Goals as goal

pub chased-requires : goal.chased-requires
chased-requires c = record { flat = c.requires.known.flat }

pub hunted-requires-clause-falsifying : goal.hunted-requires-clause-falsifying
hunted-requires-clause-falsifying c = c.in_ok-trace.ensures.falsifies c.in-Some.trace (ap Ok c.in-Some.is)

pub returns-in-Some-clause-judged : goal.returns-in-Some-clause-judged
returns-in-Some-clause-judged c = λ nodes limit left. c.hunted.ensures.judged nodes limit

pub returns-in-Some-clause-memory : goal.returns-in-Some-clause-memory
returns-in-Some-clause-memory c = c.hunted.ensures.memory
