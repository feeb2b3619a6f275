-- Within which ranges the numbers of a command are.
use Rattle.std.specs.Prelude.{ℕ, ◌≤◌}
use Rattle.rv_words.specs.Asked.{Asked, prove, check, replay, make, tour}

-- from 1 up to this
abbrev pub IsUpTo : ℕ → ℕ → Type 0
IsUpTo most n = (1 ≤ n) × (n ≤ most)

-- Nodes are at most 33,554,432, locations 4,096, and calls of a source that is made 2,000.
abbrev pub HasRanges : Asked → Type 0
HasRanges (prove file node nodes locations accelerate) = IsUpTo 33554432 nodes × IsUpTo 4096 locations
HasRanges (check file node invariant nodes) = IsUpTo 33554432 nodes
HasRanges (replay file node trace) = Unit {0}
HasRanges (make count) = IsUpTo 2000 count
HasRanges (tour count) = IsUpTo 2000 count
