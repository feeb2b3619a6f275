use Rattle.std.proofs.Common.{take}
use Rattle.std.specs.Prelude.{flat_map}
use Rattle.rv_invariant.specs.{Pieces.weight_texts, Writes.Extends}
use Rattle.rv_invariant.proofs.lines.add_weights.Given as goal

abbrev pub invariant-loop-index : goal.invariant-loop-index
invariant-loop-index l = Extends l.fn.row l.row (flat_map weight_texts (take l.index l.weights))
