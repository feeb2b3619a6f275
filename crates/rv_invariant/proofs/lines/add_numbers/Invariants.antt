use Rattle.std.proofs.Common.{map, take}
use Rattle.std.specs.Prelude.{decimal}
use Rattle.rv_invariant.specs.Writes.{Extends}
use Rattle.rv_invariant.proofs.lines.add_numbers.Given as goal

abbrev pub invariant-loop-index : goal.invariant-loop-index
invariant-loop-index l = Extends l.fn.row l.row (map decimal (take l.index l.numbers))
