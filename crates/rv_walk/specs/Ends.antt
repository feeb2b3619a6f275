-- How a walk through the control states of a system without integers ends.
use Rattle.std.specs.Prelude.{◌≡◌, Bool, false, [], ◌∷◌, IsTrue}
use Rattle.rv_diagram.specs.{Nodes.Valuation, Nodes.value_of, declared.frozen.Frozen.Frozen}
use Rattle.rv_proofs.specs.{Systems.System, Accepted.IsAccepted, Reached.AreLayers, Reached.IsControlClosed, Reached.IsControlGood, Reached.unbounded}
use Rattle.rv_proofs.specs.{declared.certificate.Certificate.Certificate, declared.certificate.Location.Location, declared.report.Layers.Layers}
use Rattle.rv_walk.specs.{declared.end.BoxEnd.BoxEnd, declared.end.BoxEnd.TheVariants.Good, declared.end.BoxEnd.TheVariants.Bad}

-- whether a control state is in a set
abbrev pub has : Frozen → Valuation → Bool
has set v = value_of set.nodes set.root v

-- The set is closed, and within each closed one: it holds the control states that are reached.
pub record IsLeastControl (s : System) (reached : Valuation → Bool) : Type 0 where
  pub closed : IsControlClosed s reached
  pub least : (other : Valuation → Bool) → IsControlClosed s other → (v : Valuation) → IsTrue (reached v) → IsTrue (other v)

-- The certificate is accepted, and has one location, whose control states are those that are reached. At each allowed
-- valuation of them the observer is true.
pub record IsGoodCertificate (s : System) (c : Certificate) : Type 0 where
  pub accepted : IsAccepted s c
  pub location : Location
  pub one : c.locations ≡ location ∷ []
  pub least : IsLeastControl s (has location.control)
  pub good : IsControlGood s (has location.control)

-- The layers are those of the control states that are reached, and at some allowed valuation of them the observer is false.
pub record AreBadLayers (s : System) (l : Layers) : Type 0 where
  pub reached : Valuation → Bool
  pub least : IsLeastControl s reached
  pub layers : AreLayers s (unbounded reached) l.sets
  pub bad : (v : Valuation) × IsTrue (s.allowed v) × IsTrue (reached v) × (s.observer v ≡ false)

-- The end is as it says.
abbrev pub IsEnd : System → BoxEnd → Type 0
IsEnd s (Good c) = IsGoodCertificate s c
IsEnd s (Bad l) = AreBadLayers s l

-- The end is good.
abbrev pub IsGoodEnd : BoxEnd → Type 0
IsGoodEnd (Good c) = Unit {0}
IsGoodEnd (Bad l) = ⊥
