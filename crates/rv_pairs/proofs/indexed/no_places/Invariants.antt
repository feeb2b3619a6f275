use Rattle.std.proofs.Common.{◌≡◌, length}
use Rattle.rv_pairs.proofs.indexed.no_places.Given as goal

abbrev pub invariant-loop-key : goal.invariant-loop-key
invariant-loop-key l = length l.places.items ≡ l._key
