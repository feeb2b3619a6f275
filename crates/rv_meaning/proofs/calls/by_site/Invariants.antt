use Rattle.std.proofs.Common.{◌≡◌, ℕ, ◌≤◌, length, drop, nat_eq}
use Rattle.std.specs.HashMap.{get}
use Rattle.rv_meaning.specs.Callings.{first_callee}
use Rattle.rv_meaning.proofs.calls.by_site.Given as goal

abbrev pub invariant-loop-left : goal.invariant-loop-left
invariant-loop-left l = record { within : l.left ≤ length l.calls; entered : (s : ℕ) → get nat_eq l.table s ≡ first_callee (drop l.left l.calls) s }

abbrev pub decreases-loop-left : goal.decreases-loop-left
decreases-loop-left l = l.left
