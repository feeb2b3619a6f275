-- A set that is taken into a claim.
use Rattle.std.proofs.Common.{◌≡◌, ℕ, true, false, ◌||◌, sym, ap, ◌∙◌, subst}
use Rattle.std.proofs.lemmas.Bool.{or_left, or_right}
use Rattle.rv_diagram.specs.{Nodes.Valuation, declared.frozen.Frozen.Frozen}
use Rattle.rv_proofs.specs.{Systems.System, Systems.HasSameState, Ranges.IsControlSet}
use Rattle.rv_proofs.proofs.ControlReads.{control_same}
use Rattle.rv_walk.specs.{Ends.has, Extended.IsExtended, declared.sets.Extended.Extended}
use Rattle.rv_walk.proofs.Counting.{missing_less}
use Rattle.rv_rise.specs.{declared.risen.Risen.Risen, Rounds.HasTaken}
use Rattle.rv_base.proofs.Truths.{none_new}
use Rattle.rv_diagram.proofs.Several.{same_truth}

pub same_states : (s : System) (set : Frozen) → IsControlSet s set → (v w : Valuation) → HasSameState s v w → has set v ≡ has set w
same_states s set control v w same =
    same_truth (has set v) (has set w) (control_same s set v w control same) (control_same s set w v control (λ x state. sym (same x state)))

module _ (s : System) (old : Risen) (set : Frozen) (control : IsControlSet s old.reached) where
  pub taken_new : (m : ℕ) (e : Extended) (new : Risen) → IsControlSet s e.all → IsExtended m old.reached set e → new.reached ≡ e.all → new.limits ≡ old.limits
      → HasTaken s set true old new
  taken_new m e new all x is limits = record {
    control = there;
    exact = exact;
    limits = limits;
    still = λ (d : true ≡ false). cc;
    less = λ d v. missing_less s (has old.reached) (has new.reached) v (same_states s old.reached control) (same_states s new.reached there)
        (λ u i. exact u ∙ or_right (has set u) (has old.reached u) i)
        (λ within. x.some (λ u. x.fresh_is u ∙ none_new (has set u) (has old.reached u) (λ i. within u (exact u
        ∙ or_left (has set u) (has old.reached u) i))));
  }
    where
      there : IsControlSet s new.reached
      there = subst (λ (f : Frozen). IsControlSet s f) (sym is) all

      exact : (v : Valuation) → has new.reached v ≡ (has set v || has old.reached v)
      exact v = ap (λ (f : Frozen). has f v) is ∙ x.all_is v
