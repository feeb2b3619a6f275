use Rattle.std.proofs.Common.{◌≡◌, ◌<◌, ℕ, length, not}
use Rattle.rv_diagram.specs.Nodes.{valuation_of}
use Rattle.rv_symbolic.specs.Variables.{is_of}
use Rattle.rv_left.proofs.failures.all_but_bits.Given as goal

abbrev pub invariant-loop-x : goal.invariant-loop-x
invariant-loop-x l = record {
  size : length l.given.items ≡ l.x;
  each : (y : ℕ) → y < l.x → valuation_of l.given.items y ≡ not (is_of l.bits 0 y);
}
