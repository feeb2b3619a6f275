-- What a box pass is given, and how it ends.
use Rattle.std.specs.Prelude.{◌≡◌, ℕ, ℤ, List}
use Rattle.rv_diagram.specs.Nodes.{Diagrams}
use Rattle.rv_proofs.specs.{Systems.System, Accepted.IsAccepted, Boxes.BoxClaim, Boxes.HasGoodBox, Reached.IsLeastClosed, Reached.AreLayers}
use Rattle.rv_proofs.specs.{declared.certificate.Certificate.Certificate}
use Rattle.rv_symbolic.specs.{declared.relation.Relation.Relation, Represented.IsRelationOf}
use Rattle.rv_cases.specs.{declared.asking.Questions.Questions, Questions.AreQuestions}
use Rattle.rv_walk.specs.{Plain.ArePlain, declared.end.BoxEnd.BoxEnd, declared.end.BoxEnd.TheVariants.Good, declared.end.BoxEnd.TheVariants.Bad}

-- The relation and the questions are those of the system in the store, and the system has so many columns.
pub record IsPassOf (s : System) (d : Diagrams) (r : Relation) (q : Questions) (columns : ℕ) : Type 0 where
  pub relation : IsRelationOf s d r
  pub questions : AreQuestions s d q
  pub wide : s.columns ≡ columns

-- The certificate is accepted, and has no loop.
pub record IsProof (s : System) (c : Certificate) : Type 0 where
  pub accepted : IsAccepted s c
  pub plain : ArePlain c

-- Good has an accepted certificate without loops where some closed claim is good. Bad has the layers of the least closed claim, where none is.
abbrev pub IsEndOf : System → List ℤ → BoxEnd → Type 0
IsEndOf s thresholds (Good c) = IsProof s c × HasGoodBox s thresholds
IsEndOf s thresholds (Bad l) = (¬ HasGoodBox s thresholds) × ((c : BoxClaim) × IsLeastClosed s thresholds c × AreLayers s c l.sets)
