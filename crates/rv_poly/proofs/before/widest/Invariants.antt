use Rattle.std.proofs.Common.{◌≤◌}
use Rattle.rv_poly.proofs.before.widest.Given as goal

abbrev pub invariant-loop-row : goal.invariant-loop-row
invariant-loop-row l = l.least ≤ l.width
