use Rattle.rv_proofs.specs.declared.certificate.Entry.{Entry}
use Rattle.rv_cover.specs.Marks.{AreMarked, OneNames, EntryNames}
use Rattle.rv_cover.proofs.marks.mark_entries.Given as goal

abbrev pub invariant-loop-place : goal.invariant-loop-place
invariant-loop-place l = AreMarked l.initial.flags l.flags l.first (OneNames Entry l.place l.entries EntryNames)
