use Rattle.std.proofs.Common.{◌≡◌, ℕ, ◌<◌, Some, slice_get}
use Rattle.rv_proofs.specs.declared.certificate.Entry.{Entry}
use Rattle.rv_ranges.specs.Documents.{IsRangedEntry}
use Rattle.rv_ranges.proofs.entries.are_entries.Given as goal

abbrev pub invariant-loop-entry : goal.invariant-loop-entry
invariant-loop-entry l = (j : ℕ) (e : Entry) → j < l.entry-index → slice_get l.entries j ≡ Some e → IsRangedEntry l.bounds l.premises e
