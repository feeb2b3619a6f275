use Rattle.std.proofs.Common.{ℕ, ◌<◌, ◌≤◌, get_or, pos}
use Rattle.rv_rows.specs.declared.farkas.Weight.{Weight}
use Rattle.rv_ranges.proofs.records.are_rising.Given as goal

abbrev pub invariant-loop-weight : goal.invariant-loop-weight
invariant-loop-weight l = record {
  below : (i : ℕ) (d : Weight) → i < l.weight-index → (get_or l.weights i d).premise < l.next;
  rising : (i j : ℕ) (d : Weight) → i < j → j < l.weight-index → (get_or l.weights i d).premise < (get_or l.weights j d).premise;
  least : (most : ℕ) → ((i : ℕ) → i < l.weight-index → (get_or l.weights i (record { premise = 0; by = pos 0 })).premise < most) → l.next ≤ most;
}
