use Rattle.std.proofs.Common.{◌-◌, length}
use Rattle.rv_symbolic.proofs.Scheduling.{AreLast}
use Rattle.rv_symbolic.proofs.schedule.schedule.Given as goal

abbrev pub invariant-loop-back : goal.invariant-loop-back
invariant-loop-back l = AreLast l.store.nodes l.relations l.initial.left l.left (length l.relations - l.back) l.parts.items
