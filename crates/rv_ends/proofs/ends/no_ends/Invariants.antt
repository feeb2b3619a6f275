use Rattle.std.proofs.Common.{◌≡◌, ℕ, length, Some, slice_get}
use Rattle.rv_ends.specs.{declared.ends.Ends.Ends, Cuts.IsFree}
use Rattle.rv_ends.proofs.ends.no_ends.Given as goal

abbrev pub invariant-loop-column : goal.invariant-loop-column
invariant-loop-column l = record {
  size : length l.ends ≡ l.column;
  each : (k : ℕ) (e : Ends) → slice_get l.ends k ≡ Some e → IsFree l.store.nodes e;
}
