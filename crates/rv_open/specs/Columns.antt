-- Systems without columns, which valuations count there, and layers of the least closed claim.
use Rattle.std.specs.Prelude.{◌≡◌, ℕ, zero, suc, ◌&&◌, Bool, true, false, ℤ, pos, negsuc, List, Option, Some, None as Nothing}
use Rattle.rv_diagram.specs.Nodes.{Valuation}
use Rattle.rv_rows.specs.declared.linear.Row.{Row}
use Rattle.rv_proofs.specs.{Systems.System, Boxes.BoxClaim, Boxes.IsGood, Reached.IsLeastClosed, Reached.AreLayers, declared.report.Layers.Layers}

-- The system has no integer memories and inputs. It may have order tests: they compare constants.
pub record HasNoColumns (s : System) : Type 0 where
  pub memories : s.memories ≡ 0
  pub columns : s.columns ≡ 0

-- whether a number is not below 0
abbrev pub is_from_zero : ℤ → Bool
is_from_zero (pos n) = true
is_from_zero (negsuc n) = false

-- whether the row, where there is one, holds without columns: its left side is 0
abbrev pub holds_alone : Option Row → Bool
holds_alone Nothing = true
holds_alone (Some r) = is_from_zero r.bound

-- whether the rows of the first n tests do
abbrev pub hold_among : System → Valuation → ℕ → Bool
hold_among s v zero = true
hold_among s v (suc n) = hold_among s v n && holds_alone (s.row v n)

-- Whether a valuation counts in a system without columns: it is allowed, and the rows of its tests hold.
abbrev pub is_counted : System → Valuation → Bool
is_counted s v = s.allowed v && hold_among s v s.tests

-- The layers are those of the least closed claim, which is not good.
pub record AreLeastBadLayers (s : System) (thresholds : List ℤ) (l : Layers) : Type 0 where
  pub claim : BoxClaim
  pub least : IsLeastClosed s thresholds claim
  pub layers : AreLayers s claim l.sets
  pub not_good : ¬ IsGood s claim
