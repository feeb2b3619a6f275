use Rattle.std.proofs.Common.{◌≡◌, length}
use Rattle.rv_cover.proofs.rows.only_marked.Given as goal

abbrev pub invariant-loop-place : goal.invariant-loop-place
invariant-loop-place l = length l.list ≡ l.place
