use Rattle.rv_seek.specs.Sides.{IsTable}
use Rattle.rv_seek.proofs.prepared.sides_of.Given as goal

abbrev pub invariant-loop-place : goal.invariant-loop-place
invariant-loop-place l = IsTable l.rows l.width l.place l.sides
