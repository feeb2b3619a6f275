use Rattle.std.proofs.Common.{◌≡◌, ◌++◌, map, drop, slice_index_or}
use Rattle.rv_flatten.proofs.found.numbers_at.Given as goal

abbrev pub invariant-loop-k : goal.invariant-loop-k
invariant-loop-k l = l.found ++ map (λ k. slice_index_or l.numbers k 0) (drop l.k-index l.at) ≡ map (λ k. slice_index_or l.numbers k 0) l.at
