use Rattle.rv_flat.specs.{Filling.AreShown, Filling.IsKept, FlatInstants.found_at}
use Rattle.rv_step.proofs.filling.kept_after.Given as goal

abbrev pub invariant-loop-number : goal.invariant-loop-number
invariant-loop-number l = record {
  kept : IsKept l.flat l.now l.input l.row l.number l.kept;
  shown : AreShown l.flat.memories (found_at l.now l.input) l.row l.shown;
}
