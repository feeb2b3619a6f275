use Rattle.std.proofs.Common.{◌≡◌, ◌^◌, All, length}
use Rattle.rv_rows.specs.Rows.{RowWithin}
use Rattle.bench_seek.proofs.rows.premises.Given as goal

abbrev pub invariant-loop-number : goal.invariant-loop-number
invariant-loop-number l = record {
  small : All (RowWithin (2 ^ 60)) l.rows;
  few : length l.rows ≡ l.number;
}
