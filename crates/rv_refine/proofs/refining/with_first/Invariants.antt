use Rattle.std.proofs.Common.{ℕ, All}
use Rattle.rv_diagram.specs.Nodes.{IsOrderedOver}
use Rattle.rv_refine.proofs.refining.with_first.Given as goal

abbrev pub invariant-loop-place : goal.invariant-loop-place
invariant-loop-place l = (n : ℕ) → IsOrderedOver n l.fn.first → All (IsOrderedOver n) l.parts → All (IsOrderedOver n) l.sets
