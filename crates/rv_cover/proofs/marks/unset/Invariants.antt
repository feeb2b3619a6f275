use Rattle.std.proofs.Common.{◌≡◌, length, All, false}
use Rattle.rv_cover.proofs.marks.unset.Given as goal

abbrev pub invariant-loop-place : goal.invariant-loop-place
invariant-loop-place l = record {
  size : length l.flags ≡ l._place;
  none : All (λ flag. flag ≡ false) l.flags;
}
