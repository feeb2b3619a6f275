use Rattle.std.proofs.Common.{◌≡◌, take, map}
use Rattle.rv_rows.specs.{Rows.dot, Forms.number}
use Rattle.rv_rows.proofs.forms.column_sum.Given as goal

abbrev pub invariant-loop-place : goal.invariant-loop-place
invariant-loop-place l = l.sum ≡ dot (take l.place l.coefficients) (map (λ f. number l.column f.coefficients) l.forms)
