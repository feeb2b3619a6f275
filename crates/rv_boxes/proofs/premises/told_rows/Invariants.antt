use Rattle.rv_boxes.specs.Opening.{IsTold}
use Rattle.rv_boxes.proofs.premises.told_rows.Given as goal

abbrev pub invariant-loop-place : goal.invariant-loop-place
invariant-loop-place l = IsTold l.many l.place l.tests l.rows l.told
