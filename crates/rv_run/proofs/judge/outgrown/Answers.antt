use Rattle.std.proofs.Common.{Ok, true≢false, ap, sym, ◌∙◌}
use Rattle.rv_run.proofs.judge.outgrown.Goals as goal

pub chased-requires : goal.chased-requires
chased-requires c = record { flat = c.requires.known.flat }

pub hunted-requires-clause-integers : goal.hunted-requires-clause-integers
hunted-requires-clause-integers c = λ control. true≢false (sym (c.is_control.ensures.1 control) ∙ c.if-is_control.false)

pub hunted-requires-clause-unprobed : goal.hunted-requires-clause-unprobed
hunted-requires-clause-unprobed c = λ has. true≢false (sym (c.is_control.ensures.1 (c.requires.unprobed has)) ∙ c.if-is_control.false)

pub hunted-requires-clause-falsifying : goal.hunted-requires-clause-falsifying
hunted-requires-clause-falsifying c = c.in_ok-trace.ensures.falsifies c.in-Some.trace (ap Ok c.in-Some.is)
