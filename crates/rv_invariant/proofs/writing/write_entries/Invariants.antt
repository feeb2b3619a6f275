use Rattle.std.proofs.Common.{◌≡◌, ◌<◌, ℕ, [], ◌∷◌, length, take}
use Rattle.std.specs.Prelude.{Some, codes, decimal, flat_map, slice_get}
use Rattle.rv_proofs.specs.declared.certificate.Entry.{Entry}
use Rattle.rv_invfile.specs.Writes.{Adds}
use Rattle.rv_invariant.specs.Certificates.{IsHeld, entry_records}
use Rattle.rv_invariant.proofs.writing.write_entries.Given as goal

abbrev pub invariant-loop-index : goal.invariant-loop-index
invariant-loop-index l =
    Adds (λ v. Some v.items) l.fn.writer l.writer ((codes "cases" ∷ decimal (length l.entries) ∷ []) ∷ flat_map entry_records (take l.index l.entries))
    × ((j : ℕ) (e : Entry) → j < l.index → slice_get l.entries j ≡ Some e → IsHeld e.condition)
