use Rattle.rv_flat.specs.{Filling.AreShown, Filling.IsFilled, FlatInstants.found_at}
use Rattle.rv_step.proofs.filling.row_of.Given as goal

abbrev pub invariant-loop-flow : goal.invariant-loop-flow
invariant-loop-flow l = record {
  filled : IsFilled l.flat l.now l.input l.flow-index l.row;
  shown : AreShown l.flat.memories (found_at l.now l.input) l.row l.shown;
}
