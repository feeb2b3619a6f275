-- The box claim that a set of control states and two lists of limits are.
use Rattle.std.specs.Prelude.{Bool, ℤ, pos, ◌-ℤ◌, List, Option, Some, None as Nothing}
use Rattle.rv_diagram.specs.Nodes.{Valuation}
use Rattle.rv_proofs.specs.Boxes.{BoxClaim}
use Rattle.rv_walk.specs.Ends.{has}
use Rattle.rv_boxes.specs.{declared.claim.Claim.Claim, Limits.limit_at}

-- An upper limit of the opposite as a lower one.
abbrev pub turned : Option ℤ → Option ℤ
turned Nothing = Nothing
turned (Some b) = Some (pos 0 -ℤ b)

-- The claim with these control states, upper limits, and upper limits of the opposites.
abbrev pub claim_with : (Valuation → Bool) → List (Option ℤ) → List (Option ℤ) → BoxClaim
claim_with reached upper lower = record { reached = reached; lower = λ k. turned (limit_at lower k); upper = λ k. limit_at upper k }

abbrev pub claim_of : Claim → BoxClaim
claim_of c = claim_with (has c.reached) c.upper c.lower
