use Rattle.std.proofs.Common.{◌≡◌, ℕ, ◌<◌, Some, slice_get}
use Rattle.rv_diagram.specs.Nodes.{valuation_of}
use Rattle.rv_cover.specs.{declared.several.Target.Target, Toward.LeadsInto}
use Rattle.rv_cover.proofs.several.target_at.Given as goal

abbrev pub invariant-loop-place : goal.invariant-loop-place
invariant-loop-place l = (n : ℕ) (t : Target) → n < l.place → slice_get l.targets n ≡ Some t → LeadsInto l.store.nodes (valuation_of l.sample) t → ⊥
