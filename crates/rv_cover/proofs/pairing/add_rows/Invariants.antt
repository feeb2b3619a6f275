use Rattle.std.proofs.Common.{◌≡◌, ◌+◌, length}
use Rattle.rv_cover.proofs.pairing.add_rows.Given as goal

abbrev pub invariant-loop-place : goal.invariant-loop-place
invariant-loop-place l = length l.rows ≡ length l.initial.rows + l.place
