use Rattle.std.proofs.Common.{◌≡◌, ◌≤◌, length, take}
use Rattle.rv_flatten.specs.Positions.{way_from}
use Rattle.rv_flatten.proofs.positions.turn.Given as goal

abbrev pub invariant-loop-k : goal.invariant-loop-k
invariant-loop-k l = record { way : l.way ≡ way_from l.layout 0 (take l.k l.other); within : l.k ≤ length l.other; end : l.k-end ≡ length l.other }
