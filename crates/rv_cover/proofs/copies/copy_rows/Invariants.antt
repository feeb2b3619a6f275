use Rattle.std.proofs.Common.{◌≡◌, take}
use Rattle.rv_cover.proofs.copies.copy_rows.Given as goal

abbrev pub invariant-loop-place : goal.invariant-loop-place
invariant-loop-place l = l.copies ≡ take l.place l.rows
