-- What a claim takes, at valuations that are the same but for next copies.
use Rattle.std.proofs.Common.{◌≡◌, ℕ, ◌<◌, Bool, List, Option, ◌++◌, cond, refl, sym, ap, ◌∙◌, subst, zero, suc}
use Rattle.rv_diagram.specs.Nodes.{Valuation}
use Rattle.rv_rows.specs.{declared.linear.Row.Row, Multipliers.AreShutAtOnce}
use Rattle.rv_proofs.specs.Systems.{System, IsSystem, IsSameValuation, rows_of, rows_among, held_row}
use Rattle.rv_proofs.specs.RowClaims.{IsRowTaken, premises_at}
use Rattle.rv_symbolic.proofs.Reading.{valuation_state}
use Rattle.rv_rise.specs.{declared.frame.Frame.Frame, declared.risen.Risen.Risen, Rounds.IsKeptRisen, Rounds.claim_in}
use Rattle.rv_rise.proofs.Taking.{same_states}

rows_same : (s : System) → IsSystem s → (v w : Valuation) → IsSameValuation s v w → (n : ℕ) → rows_among s v n ≡ rows_among s w n
rows_same s is v w same zero = refl
rows_same s is v w same (suc n) =
    ap (λ (rs : List Row). rs ++ held_row (s.row v n)) (rows_same s is v w same n)
    ∙ ap (λ (o : Option Row). rows_among s w n ++ held_row o) (is.row v w n same)

module _ (s : System) (is : IsSystem s) (f : Frame) (c : Risen) (kept : IsKeptRisen s f c) where
  premises_same : (v w : Valuation) → 0 < s.states → IsSameValuation s v w → premises_at s (claim_in f c) v ≡ premises_at s (claim_in f c) w
  premises_same v w some same =
      let tick : v 0 ≡ w 0 = valuation_state s v w is.bits same 0 (0, some, refl) in
      ap (λ (on : Bool). cond on (rows_of s v ++ (claim_in f c).rows) (rows_of s v)) tick
      ∙ ap (λ (rs : List Row). cond (w 0) (rs ++ (claim_in f c).rows) rs) (rows_same s is v w same s.tests)

  pub taken_same : (v w : Valuation) → IsSameValuation s v w → IsRowTaken s (claim_in f c) v → IsRowTaken s (claim_in f c) w
  taken_same v w same t = record {
    allowed = sym (is.allowed v w same) ∙ t.allowed;
    reached = sym (same_states s c.reached kept.control v w (valuation_state s v w is.bits same)) ∙ t.reached;
    is_open = λ shut. t.is_open (subst AreShutAtOnce (sym (premises_same v w (kept.states v t.reached) same)) shut);
  }
