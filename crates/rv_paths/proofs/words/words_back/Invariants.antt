use Rattle.std.proofs.Common.{◌≡◌, ◌+◌, All, length}
use Rattle.rv_paths.proofs.words.words_back.Given as goal

abbrev pub invariant-loop-back : goal.invariant-loop-back
invariant-loop-back l = record {
  same : l.store ≡ l.initial.store;
  count : length l.words ≡ l.back + 1;
  sizes : All (λ w. length w ≡ l.initial.store.variables) l.words;
}
