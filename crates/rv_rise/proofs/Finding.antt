-- The claim that is found, as a value.
use Rattle.std.proofs.Common.{◌≡◌, ℤ, List, sym, ap, ◌∙◌, subst}
use Rattle.rv_diagram.specs.declared.frozen.Frozen.{Frozen}
use Rattle.rv_rows.specs.declared.linear.Row.{Row}
use Rattle.rv_proofs.specs.{Systems.System, RowClaims.RowClaim, RowClaims.IsLeastRowClosed, Ranges.IsControlSet, Ranges.AreKept}
use Rattle.rv_walk.specs.Ends.{has}
use Rattle.rv_claims.specs.{declared.claim.Claim.Claim, Claiming.claim_of, Claiming.IsKeptClaim}
use Rattle.rv_rise.specs.{declared.frame.Frame.Frame, declared.risen.Risen.Risen, Sides.rows_with, Rounds.IsFrameOf, Rounds.IsLeastRisen, Rounds.claim_in}
use Rattle.rv_rise.proofs.Fitting.{rows_kept}

module _ (s : System) (f : Frame) (thresholds : List ℤ) (x : Risen) (c : Claim) (same : f.thresholds ≡ thresholds) (reached : c.reached ≡ x.reached)
    (rows : c.rows ≡ rows_with f.sides x.limits) where
  claims_same : claim_in f x ≡ claim_of c
  claims_same =
      ap (λ (g : Frozen). let y : RowClaim = record { reached = has g; rows = rows_with f.sides x.limits } in y) (sym reached)
      ∙ ap (λ (rs : List Row). let y : RowClaim = record { reached = has c.reached; rows = rs } in y) (sym rows)

  pub found_least : IsLeastRisen s f x → IsLeastRowClosed s thresholds (claim_of c)
  found_least h = subst (λ (ts : List ℤ). IsLeastRowClosed s ts (claim_of c)) same (subst (IsLeastRowClosed s f.thresholds) claims_same h.least)

  pub found_kept : IsFrameOf s f → IsLeastRisen s f x → IsKeptClaim s thresholds c
  found_kept frame h =
      let kept = h.kept in
      let least = found_least h in
      record {
        claim = least.claim;
        control = subst (IsControlSet s) (sym reached) kept.control;
        initial = λ v i. ap (λ (g : Frozen). has g v) reached ∙ kept.initial v i;
        ticked = λ v i. kept.ticked v (ap (λ (g : Frozen). has g v) (sym reached) ∙ i);
        states = λ v i. kept.states v (ap (λ (g : Frozen). has g v) (sym reached) ∙ i);
        kept = subst (AreKept s) (sym rows) (rows_kept s f.sides frame.sides f.thresholds frame.small x.limits kept.among);
      }
