-- What is proved of a system that no box claim decides.
use Rattle.std.specs.Prelude.{◌≡◌, ◌≤◌, ◌^◌, ℕ, ℤ, Bool, false, List, All}
use Rattle.std.specs.Int.RustNames.{unsigned_abs}
use Rattle.rv_diagram.specs.Nodes.{Diagrams}
use Rattle.rv_proofs.specs.{Systems.System, Accepted.IsAccepted, Left.IsLeftReport, declared.certificate.Certificate.Certificate}
use Rattle.rv_symbolic.specs.{declared.relation.Relation.Relation, Represented.IsRelationOf}
use Rattle.rv_cases.specs.{declared.asking.Questions.Questions, Questions.AreQuestions}
use Rattle.rv_walk.specs.Plain.{ArePlain}
use Rattle.rv_reading.specs.{declared.ending.Analysis.Analysis, declared.ending.Analysis.TheVariants.Proved, declared.ending.Analysis.TheVariants.Left}

-- The relation and the questions are those of the system in the store, and the thresholds are at most 2^41 by magnitude.
pub record IsGiven (s : System) (d : Diagrams) (r : Relation) (q : Questions) (thresholds : List ℤ) : Type 0 where
  pub relation : IsRelationOf s d r
  pub questions : AreQuestions s d q
  pub small : All (λ t. unsigned_abs t ≤ 2 ^ 41) thresholds

-- The certificate is accepted, and where loops are not to be accelerated it has none.
pub record IsCertified (s : System) (accelerate : Bool) (c : Certificate) : Type 0 where
  pub accepted : IsAccepted s c
  pub plain : accelerate ≡ false → ArePlain c

-- How an analysis ends: with an accepted certificate, without loops where none are asked for, or with a left partition without loops of at most
-- so many locations and why no more was split.
abbrev pub IsAnalysisOf : System → ℕ → Bool → Analysis → Type 0
IsAnalysisOf s limit accelerate (Proved c) = IsCertified s accelerate c
IsAnalysisOf s limit accelerate (Left l) = IsLeftReport s limit l × ArePlain l.partition

-- The analysis is a proof.
abbrev pub IsProved : Analysis → Type 0
IsProved (Proved c) = Unit {0}
IsProved (Left l) = ⊥
