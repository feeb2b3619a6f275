-- The row claim that a set of control states and a list of rows are.
use Rattle.std.specs.Prelude.{◌≡◌, ◌⊎◌, ◌<◌, ℤ, List, true, IsTrue}
use Rattle.rv_diagram.specs.Nodes.{Valuation}
use Rattle.rv_proofs.specs.{Systems.System, Scopes.IsIn, Ranges.IsControlSet, Ranges.AreKept, RowClaims.RowClaim, RowClaims.IsRowClaim}
use Rattle.rv_walk.specs.Ends.{has}
use Rattle.rv_claims.specs.declared.claim.Claim.{Claim}

abbrev pub claim_of : Claim → RowClaim
claim_of c = record { reached = has c.reached; rows = c.rows }

-- The value is a claim over thresholds that a certificate can be made of: its set reads state bits alone and holds the initial control
-- states, the main tick is true at all others, and its rows are within the limits of kept rows.
pub record IsKeptClaim (s : System) (thresholds : List ℤ) (c : Claim) : Type 0 where
  pub claim : IsRowClaim s thresholds (claim_of c)
  pub control : IsControlSet s c.reached
  pub initial : (v : Valuation) → IsTrue (s.initial v) → IsIn c.reached v
  pub ticked : (v : Valuation) → IsIn c.reached v → IsTrue (s.initial v) ⊎ (v 0 ≡ true)
  pub states : (v : Valuation) → IsIn c.reached v → 0 < s.states
  pub kept : AreKept s c.rows
