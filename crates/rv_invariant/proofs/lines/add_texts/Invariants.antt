use Rattle.std.proofs.Common.{take}
use Rattle.rv_invariant.specs.Writes.{Extends}
use Rattle.rv_invariant.proofs.lines.add_texts.Given as goal

abbrev pub invariant-loop-index : goal.invariant-loop-index
invariant-loop-index l = Extends l.fn.row l.row (take l.index l.texts)
