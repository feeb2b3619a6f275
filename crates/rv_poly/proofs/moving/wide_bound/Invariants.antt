use Rattle.std.proofs.Common.{◌≡◌, ◌≤◌, ◌+◌, ◌*◌, ◌^◌, ◌+ℤ◌, take, map}
use Rattle.std.specs.Int.RustNames.{unsigned_abs}
use Rattle.rv_rows.specs.Rows.{dot}
use Rattle.rv_poly.specs.Moves.{whole_of, IsNormal}
use Rattle.rv_poly.proofs.moving.wide_bound.Given as goal

abbrev pub invariant-loop-column : goal.invariant-loop-column
invariant-loop-column l = record {
  value : whole_of l.sum ≡ l.row.bound +ℤ dot l.row.coefficients (take l.column (map (λ f. f.constant) l.updates));
  normal : IsNormal l.sum;
  high : unsigned_abs l.sum.high ≤ 2 ^ 31 + l.column * 2 ^ 62;
}
