-- Certificates without loops.
use Rattle.std.specs.Prelude.{◌≡◌, ℕ, [], Some, slice_get}
use Rattle.rv_proofs.specs.{Counts.HasLoop, declared.certificate.Certificate.Certificate, declared.certificate.Location.Location}
use Rattle.rv_walk.specs.{declared.end.BoxEnd.BoxEnd, declared.end.BoxEnd.TheVariants.Good, declared.end.BoxEnd.TheVariants.Bad}

-- No entry of the location is a turn of a loop, and it has no rows of one.
pub record IsPlain (l : Location) : Type 0 where
  pub no_loop : ¬ HasLoop l
  pub no_first : l.first ≡ []
  pub no_around : l.around ≡ []

-- No location of the certificate has a loop.
abbrev pub ArePlain : Certificate → Type 0
ArePlain c = (k : ℕ) (l : Location) → slice_get c.locations k ≡ Some l → IsPlain l

-- A certificate with which the walk ends has no loop.
abbrev pub IsPlainEnd : BoxEnd → Type 0
IsPlainEnd (Good c) = ArePlain c
IsPlainEnd (Bad l) = Unit {0}
