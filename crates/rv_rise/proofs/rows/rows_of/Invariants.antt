use Rattle.std.proofs.Common.{◌≡◌, take}
use Rattle.rv_rise.specs.Sides.{rows_with}
use Rattle.rv_rise.proofs.rows.rows_of.Given as goal

abbrev pub invariant-loop-place : goal.invariant-loop-place
invariant-loop-place l = l.rows ≡ rows_with (take l.place l.sides) (take l.place l.limits)
