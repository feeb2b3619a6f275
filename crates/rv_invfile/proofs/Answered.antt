-- What an answer says of the records.
use Rattle.std.proofs.Common.{◌≡◌, List, inl, inr, refl, subst}
use Rattle.std.specs.Prelude.{Result, Ok, Err}
use Rattle.rv_invfile.specs.{declared.fault.FileFault.FileFault, Rules.Fields, Rules.Rule, Rules.IsDocument, Faults.IsFirstFault, Readers.Gives, Readers.whole}
use Rattle.rv_invfile.specs.{Tells.Tells, Tells.Finds, Tells.Explains}
use Rattle.rv_invfile.specs.declared.fault.FileFault.TheVariants as fault
use Rattle.rv_invfile.proofs.Exact.{whole_tells, reads-document}

module _ {A : Type 0} (rule : Rule A) (rs : List Fields) where
  pub document_read : (r : Result A FileFault) → Gives (whole rule rs) r → (a : A) → r ≡ Ok a → IsDocument rule rs a
  document_read r g a e = subst (Tells rule rs) (subst (Gives (whole rule rs)) e g) (whole_tells rule rs)

  told : (e : FileFault) → whole rule rs ≡ Err e → IsFirstFault rule rs e
  told e h = subst (Tells rule rs) h (whole_tells rule rs)

  pub fault_read : (e : FileFault) → Gives (whole rule rs) (Err e) → Explains rule rs e
  fault_read (fault.NotRecords n) g = inr (told (fault.NotRecords n) g)
  fault_read (fault.WrongKind n) g = inr (told (fault.WrongKind n) g)
  fault_read (fault.WrongProgram n) g = inr (told (fault.WrongProgram n) g)
  fault_read (fault.BadNumber n i) g = inr (told (fault.BadNumber n i) g)
  fault_read (fault.Ends n) g = inr (told (fault.Ends n) g)
  fault_read fault.Memory g = inl refl

  found-by : (a : A) (r : Result A FileFault) → whole rule rs ≡ Ok a → Gives (whole rule rs) r → Finds a r
  found-by a (Err fault.Memory) h g = refl
  found-by a _ h g = cc

  pub document_found : (a : A) (r : Result A FileFault) → IsDocument rule rs a → Gives (whole rule rs) r → Finds a r
  document_found a r d g = found-by a r (reads-document rule 0 rs a d) g
