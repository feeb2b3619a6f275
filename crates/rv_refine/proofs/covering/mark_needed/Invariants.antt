use Rattle.std.proofs.Common.{◌≡◌, length}
use Rattle.rv_refine.proofs.covering.mark_needed.Given as goal

abbrev pub invariant-loop-try : goal.invariant-loop-try
invariant-loop-try l = record {
  same : l.store ≡ l.initial.store;
  many : length l.flags ≡ length l.initial.flags;
  known : length l.known ≡ length l.initial.flags;
}
