use Rattle.std.proofs.Common.{[], ◌∷◌, length, map, take}
use Rattle.std.specs.Prelude.{Some, decimal}
use Rattle.rv_invfile.specs.Writes.{Adds}
use Rattle.rv_invariant.specs.Pieces.{row_record}
use Rattle.rv_invariant.proofs.lines.write_list.Given as goal

abbrev pub invariant-loop-index : goal.invariant-loop-index
invariant-loop-index l = Adds (λ v. Some v.items) l.fn.writer l.writer ((l.word ∷ decimal (length l.rows) ∷ []) ∷ map row_record (take l.index l.rows))
