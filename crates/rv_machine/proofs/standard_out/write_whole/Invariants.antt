use Rattle.rv_machine.proofs.Fronts.{IsFront}
use Rattle.rv_machine.proofs.standard_out.write_whole.Given as goal

abbrev pub invariant-loop : goal.invariant-loop
invariant-loop g l = IsFront (g.W.Write.contents l.initial.writer) (g.W.Write.contents l.writer) l.initial.rest l.rest
