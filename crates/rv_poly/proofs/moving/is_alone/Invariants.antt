use Rattle.std.proofs.Common.{◌≡◌, ℕ, ◌<◌, pos}
use Rattle.rv_rows.specs.Forms.{number}
use Rattle.rv_poly.proofs.moving.is_alone.Given as goal

abbrev pub invariant-loop-place : goal.invariant-loop-place
invariant-loop-place l = (j : ℕ) → j < l.place → (j ≡ l.column → ⊥) → number j l.numbers ≡ pos 0
