use Rattle.std.proofs.Common.{◌≡◌, ℕ, ◌+◌, drop, length}
use Rattle.rv_pairs.specs.Keys.{IsKey}
use Rattle.rv_pairs.proofs.keys.key_of.Given as goal

abbrev pub invariant-loop-done : goal.invariant-loop-done
invariant-loop-done l = (k : ℕ) → k + l.done ≡ length l.numbers → IsKey (drop k l.numbers) l.key
