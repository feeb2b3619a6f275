use Rattle.std.proofs.Common.{◌≡◌, ◌<◌, ℕ, length, not}
use Rattle.rv_diagram.specs.Nodes.{valuation_of}
use Rattle.rv_symbolic.specs.Variables.{is_of}
use Rattle.rv_cover.proofs.reading.no_copies.Given as goal

abbrev pub invariant-loop-x : goal.invariant-loop-x
invariant-loop-x l = record {
  size : length l.read.items ≡ l.x;
  each : (y : ℕ) → y < l.x → valuation_of l.read.items y ≡ not (is_of l.bits 1 y);
}
