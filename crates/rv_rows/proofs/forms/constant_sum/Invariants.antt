use Rattle.std.proofs.Common.{◌≡◌, take, map}
use Rattle.rv_rows.specs.Rows.{dot}
use Rattle.rv_rows.proofs.forms.constant_sum.Given as goal

abbrev pub invariant-loop-place : goal.invariant-loop-place
invariant-loop-place l = l.sum ≡ dot (take l.place l.coefficients) (map (λ f. f.constant) l.forms)
