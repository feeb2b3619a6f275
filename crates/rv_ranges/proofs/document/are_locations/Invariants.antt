use Rattle.std.proofs.Common.{◌≡◌, ℕ, ◌<◌, Some, slice_get}
use Rattle.rv_proofs.specs.declared.certificate.Location.{Location}
use Rattle.rv_ranges.specs.Documents.{IsRangedLocation}
use Rattle.rv_ranges.proofs.document.are_locations.Given as goal

abbrev pub invariant-loop-location : goal.invariant-loop-location
invariant-loop-location l = (k : ℕ) (m : Location) → k < l.location-index → slice_get l.certificate.locations k ≡ Some m → IsRangedLocation l.bounds m
