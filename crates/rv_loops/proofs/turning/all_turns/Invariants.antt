use Rattle.std.proofs.Common.{◌≡◌, length}
use Rattle.rv_loops.proofs.turning.all_turns.Given as goal

abbrev pub invariant-loop-number : goal.invariant-loop-number
invariant-loop-number l = record {
  same : l.store ≡ l.initial.store;
  many : length l.flags ≡ l.number;
}
