use Rattle.std.proofs.Common.{◌≤◌, ◌^◌, All}
use Rattle.std.specs.Int.RustNames.{unsigned_abs}
use Rattle.bench_seek.proofs.rows.sum_row.Given as goal

abbrev pub invariant-loop-column : goal.invariant-loop-column
invariant-loop-column l = All (λ c. unsigned_abs c ≤ 2 ^ 60) l.coefficients
