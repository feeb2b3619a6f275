use Rattle.std.proofs.Common.{◌≡◌, length}
use Rattle.rv_refine.proofs.covering.mark_together.Given as goal

abbrev pub invariant-loop-place : goal.invariant-loop-place
invariant-loop-place l = record {
  same : l.store ≡ l.initial.store;
  many : length l.flags ≡ length l.initial.flags;
}
