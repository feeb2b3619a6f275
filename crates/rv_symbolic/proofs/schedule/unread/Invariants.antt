use Rattle.std.proofs.Common.{◌≡◌, ◌<◌, ℕ, length, not, ◌&&◌}
use Rattle.rv_diagram.specs.Nodes.{valuation_of}
use Rattle.rv_symbolic.proofs.schedule.unread.Given as goal

abbrev pub invariant-loop-x : goal.invariant-loop-x
invariant-loop-x l = record {
  size : length l.left.items ≡ l.x;
  each : (y : ℕ) → y < l.x → valuation_of l.left.items y ≡ (valuation_of l.given y && not (valuation_of l.read y));
}
