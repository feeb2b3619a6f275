use Rattle.std.proofs.Common.{◌≡◌, ◌≤◌, length, take}
use Rattle.rv_flatten.proofs.positions.shared.Given as goal

abbrev pub invariant-loop-k : goal.invariant-loop-k
invariant-loop-k l = record { within : l.k ≤ length l.other; same : take l.k l.one ≡ take l.k l.other; end : l.k-end ≡ length l.one }
