use Rattle.std.proofs.Common.{◌≡◌, ◌<◌, ℕ, take}
use Rattle.std.specs.Prelude.{Some, flat_map, slice_get}
use Rattle.rv_proofs.specs.declared.certificate.Location.{Location}
use Rattle.rv_invfile.specs.Writes.{Adds}
use Rattle.rv_invariant.specs.{Certificates.location_records, Writes.HasHeld}
use Rattle.rv_invariant.proofs.writing.write_locations.Given as goal

abbrev pub invariant-loop-index : goal.invariant-loop-index
invariant-loop-index l =
    Adds (λ v. Some v.items) l.fn.writer l.writer (flat_map location_records (take l.index l.locations))
    × ((k : ℕ) (x : Location) → k < l.index → slice_get l.locations k ≡ Some x → HasHeld x)
