-- How far limits rise by all valuations that a claim takes.
use Rattle.std.specs.Prelude.{◌≡◌, ℕ, ◌<◌, ℤ, ◌*ℤ◌, ◌≤ℤ◌, List, length, Option}
use Rattle.rv_diagram.specs.Nodes.{Valuation}
use Rattle.rv_rows.specs.Forms.{value}
use Rattle.rv_proofs.specs.{Systems.System, Boxes.BoxClaim, Boxes.IsInBox, Boxes.IsTaken}
use Rattle.rv_ends.specs.Risen.{IsRisen}
use Rattle.rv_boxes.specs.Limits.{limit_at}

-- What memory k becomes, times the sign, is nowhere past the bound in the box of a valuation that the claim takes.
abbrev pub HoldsAt : System → BoxClaim → ℕ → ℤ → ℤ → Type 0
HoldsAt s c k sign b = (v : Valuation) → IsTaken s c v → (point : List ℤ) → IsInBox s c v point → (sign *ℤ value (s.update v k) point) ≤ℤ b

-- The first n limits, each risen by what its memory becomes, times the sign.
pub record AreRisen (s : System) (c : BoxClaim) (thresholds : List ℤ) (sign : ℤ) (n : ℕ) (old new : List (Option ℤ)) : Type 0 where
  pub size : length new ≡ n
  pub each : (k : ℕ) → k < n → IsRisen thresholds (HoldsAt s c k sign) (limit_at old k) (limit_at new k)
