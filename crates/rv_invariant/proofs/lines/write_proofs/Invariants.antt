use Rattle.std.proofs.Common.{map, take}
use Rattle.std.specs.Prelude.{Some}
use Rattle.rv_invfile.specs.Writes.{Adds}
use Rattle.rv_invariant.specs.Pieces.{by_record}
use Rattle.rv_invariant.proofs.lines.write_proofs.Given as goal

abbrev pub invariant-loop-index : goal.invariant-loop-index
invariant-loop-index l = Adds (λ v. Some v.items) l.fn.writer l.writer (map by_record (take l.index l.proofs))
