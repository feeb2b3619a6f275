use Rattle.std.proofs.Common.{◌≡◌, ℕ, ◌+◌, ◌≤◌, List, length, drop}
use Rattle.std.specs.HashMap.{get}
use Rattle.rv_tree.specs.Places.{is_same, names}
use Rattle.rv_meaning.specs.Numbers.{entered}
use Rattle.rv_meaning.proofs.numbers.enter.Given as goal

abbrev pub invariant-loop-left : goal.invariant-loop-left
invariant-loop-left l = record {
  within : l.left ≤ length l.decls;
  entered : (x : List ℕ) → get is_same l.numbers x ≡ entered (l.first + l.left) (names (drop l.left l.decls)) (get is_same l.initial.numbers x) x;
}

abbrev pub decreases-loop-left : goal.decreases-loop-left
decreases-loop-left l = l.left
