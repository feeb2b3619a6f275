use Rattle.std.proofs.Common.{◌≡◌, length}
use Rattle.rv_refine.proofs.covering.mark_rest.Given as goal

abbrev pub invariant-loop-turn : goal.invariant-loop-turn
invariant-loop-turn l = record {
  same : l.store ≡ l.initial.store;
  many : length l.flags ≡ length l.initial.flags;
  known : length l.known ≡ length l.initial.known;
}
