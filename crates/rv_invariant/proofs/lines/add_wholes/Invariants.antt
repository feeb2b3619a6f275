use Rattle.std.proofs.Common.{map, take}
use Rattle.std.specs.Fmt.{signed_decimal}
use Rattle.rv_invariant.specs.Writes.{Extends}
use Rattle.rv_invariant.proofs.lines.add_wholes.Given as goal

abbrev pub invariant-loop-index : goal.invariant-loop-index
invariant-loop-index l = Extends l.fn.row l.row (map signed_decimal (take l.index l.numbers))
