use Rattle.std.proofs.Common.{◌≡◌, length}
use Rattle.rv_cases.proofs.splitting.all_false.Given as goal

abbrev pub invariant-loop-variable : goal.invariant-loop-variable
invariant-loop-variable l = length l.values ≡ l._variable
