use Rattle.std.proofs.Common.{◌≡◌, ℕ, ◌<◌, Some, slice_get}
use Rattle.rv_proofs.specs.{Counts.HasLoop, declared.certificate.Location.Location}
use Rattle.rv_ranges.proofs.document.is_plain.Given as goal

abbrev pub invariant-loop-location : goal.invariant-loop-location
invariant-loop-location l = (k : ℕ) (m : Location) → k < l.location-index → slice_get l.certificate.locations k ≡ Some m → ¬ HasLoop m
