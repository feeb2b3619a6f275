-- The order of row claims, and the step upward that stays below each closed one.
use Rattle.std.specs.Prelude.{◌⊎◌, ℤ, List, IsTrue}
use Rattle.rv_diagram.specs.Nodes.{Valuation}
use Rattle.rv_rows.specs.{declared.linear.Row.Row, Forms.IsSubstituted, Multipliers.ShowsAtOnce}
use Rattle.rv_proofs.specs.Systems.{System, HasSameState, updates_of}
use Rattle.rv_proofs.specs.RowClaims.{RowClaim, IsCandidate, IsRowClaim, IsRowTaken, IsRowClosed, HasTighter, IsRowTighter, premises_at}

-- The claim is at least as tight as each closed one.
abbrev pub IsBelowClosed : System → List ℤ → RowClaim → Type 0
IsBelowClosed s thresholds c = (d : RowClaim) → IsRowClaim s thresholds d → IsRowClosed s d → IsRowTighter c d

-- Where the search begins: the initial control states, and each left side with a bound that is at most each threshold.
pub record IsBottom (s : System) (thresholds : List ℤ) (c : RowClaim) : Type 0 where
  pub reached : (v : Valuation) → IsTrue (c.reached v) → IsTrue (s.initial v)
  pub rows : (r : Row) → IsCandidate s thresholds r → HasTighter c.rows r

-- The premises of each valuation of the claim show the row, after the updates, at once.
abbrev pub IsShownBy : System → RowClaim → Row → Type 0
IsShownBy s c r = (v : Valuation) → IsRowTaken s c v → (new : Row) × IsSubstituted r (updates_of s v) new × ShowsAtOnce (premises_at s c v) new

-- One step upward: only initial control states, those that there were and next ones are in it, and each bound is at most
-- the least threshold that is shown and not below the old bound.
pub record IsRaised (s : System) (thresholds : List ℤ) (c e : RowClaim) : Type 0 where
  pub reached : (v : Valuation) → IsTrue (e.reached v)
      → IsTrue (s.initial v) ⊎ (IsTrue (c.reached v) ⊎ ((w : Valuation) × IsRowTaken s c w × HasSameState s (s.next w) v))
  pub rows : (r : Row) → IsCandidate s thresholds r → HasTighter c.rows r → IsShownBy s c r → HasTighter e.rows r
