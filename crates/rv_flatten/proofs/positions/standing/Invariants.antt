use Rattle.std.proofs.Common.{◌≡◌, drop, replicate}
use Rattle.rv_flatten.specs.Positions.{told}
use Rattle.rv_flatten.proofs.positions.standing.Given as goal

abbrev pub invariant-loop-number : goal.invariant-loop-number
invariant-loop-number l = told l.at l.next (drop l.number-index l.numbers) ≡ told (replicate l.count 0) l.first l.numbers
