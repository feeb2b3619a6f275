-- Where the observer may be false.
use Rattle.std.specs.Prelude.{◌≡◌, ◌↔◌, true, false}
use Rattle.rv_diagram.specs.{Nodes.Valuation, declared.frozen.Frozen.Frozen}
use Rattle.rv_proofs.specs.{Systems.System, Systems.HasSameState, Ranges.IsControlSet}
use Rattle.rv_walk.specs.Ends.{has}

-- some allowed valuation of the control state has a false observer
abbrev pub IsFailing : System → Valuation → Type 0
IsFailing s v = (w : Valuation) × (s.allowed w ≡ true) × (s.observer w ≡ false) × HasSameState s w v

-- The set holds exactly these control states.
pub record IsFailingSet (s : System) (set : Frozen) : Type 0 where
  pub control : IsControlSet s set
  pub exact : (v : Valuation) → (has set v ≡ true) ↔ IsFailing s v
