use Rattle.std.proofs.Common.{ℕ, ◌+◌, ◌<◌, length, IfSome}
use Rattle.rv_seek.specs.Least.{PairSums, IsLeastAt}
use Rattle.rv_seek.proofs.least.least_among_within.Given as goal

abbrev pub invariant-loop-place : goal.invariant-loop-place
invariant-loop-place l = record {
  shown : IfSome l.least (PairSums l.premises l.wanted);
  among : IfSome l.least (λ b. b.first < l.place);
  least : (i : ℕ) → i < l.place → IsLeastAt l.premises l.wanted (length l.premises + 2) l.least i;
}
