-- The document of an unknown report: why nothing more was split, which locations are left, and then a partition as in the document of a
-- certificate.
use Rattle.std.specs.Prelude.{◌<◌, ◌^◌, ℕ, List, [], ◌∷◌, ⊤, map, codes, decimal}
use Rattle.std.specs.List.{All}
use Rattle.rv_flat.specs.declared.flat.Flat.{Flat}
use Rattle.rv_proofs.specs.{declared.report.LeftReport.LeftReport, declared.report.Why.Why}
use Rattle.rv_proofs.specs.declared.report.Why.TheVariants.{Locations, Stuck}
use Rattle.rv_invfile.specs.Rules.{Fields}
use Rattle.rv_invariant.specs.Certificates.{FitsCertificate, body_records}

abbrev pub unknown_record : Fields
unknown_record = codes "reaver" ∷ codes "unknown" ∷ codes "1" ∷ []

-- why nothing more was split: there are as many locations as there may be, or each left one has one control state
abbrev pub why_record : Why → Fields
why_record (Locations count) = codes "why" ∷ codes "locations" ∷ decimal count ∷ []
why_record Stuck = codes "why" ∷ codes "stuck" ∷ []

-- the numbers of the left locations
abbrev pub left_record : List ℕ → Fields
left_record left = codes "left" ∷ map decimal left

-- what stands before the partition
abbrev pub reason_records : LeftReport → List Fields
reason_records report = unknown_record ∷ why_record report.why ∷ left_record report.left ∷ []

-- The records of an unknown report: behind its reason those of a certificate from the name of the node on.
abbrev pub left_records : Flat → LeftReport → List Fields
left_records f report = unknown_record ∷ why_record report.why ∷ left_record report.left ∷ body_records f report.partition

-- the count of locations, where one is told, is held in 32 bits
abbrev pub IsHeldWhy : Why → Type 0
IsHeldWhy (Locations count) = count < 2 ^ 32
IsHeldWhy Stuck = ⊤

-- The report has the counts and ranges of a document of the flat system.
pub record FitsReport (f : Flat) (report : LeftReport) : Type 0 where
  pub partition : FitsCertificate f report.partition
  pub left : All (λ k. k < 2 ^ 32) report.left
  pub why : IsHeldWhy report.why
