use Rattle.std.proofs.Common.{◌≡◌, ◌+◌, cond, false, length}
use Rattle.rv_proofs.specs.{Systems.System, RowClaims.IsRowClosed}
use Rattle.rv_claims.specs.Order.{IsBelowClosed}
use Rattle.rv_rise.specs.Rounds.{IsGivenIn, AreAsked, IsKeptRisen, IsFirstHeld, claim_in, left_of}
use Rattle.rv_rise.proofs.rounds.all_rounds.Given as goal

abbrev pub invariant-loop-more : goal.invariant-loop-more
invariant-loop-more l = record {
  same : l.store ≡ l.initial.store;
  kept : (s : System) → IsGivenIn s l.initial.store l.relation l.questions l.frame → AreAsked s l.initial.store l.asked → IsKeptRisen s l.frame l.fn.begun
      → IsFirstHeld s l.frame l.fn.begun → IsKeptRisen s l.frame l.claim;
  held : (s : System) → IsGivenIn s l.initial.store l.relation l.questions l.frame → AreAsked s l.initial.store l.asked → IsKeptRisen s l.frame l.fn.begun
      → IsFirstHeld s l.frame l.fn.begun → IsFirstHeld s l.frame l.claim;
  below : (s : System) → IsGivenIn s l.initial.store l.relation l.questions l.frame → AreAsked s l.initial.store l.asked → IsKeptRisen s l.frame l.fn.begun
      → IsFirstHeld s l.frame l.fn.begun → IsBelowClosed s l.frame.thresholds (claim_in l.frame l.fn.begun)
      → IsBelowClosed s l.frame.thresholds (claim_in l.frame l.claim);
  closed : (s : System) → IsGivenIn s l.initial.store l.relation l.questions l.frame → AreAsked s l.initial.store l.asked → IsKeptRisen s l.frame l.fn.begun
      → IsFirstHeld s l.frame l.fn.begun → l.more ≡ false → IsRowClosed s (claim_in l.frame l.claim);
}

abbrev pub decreases-loop-more : goal.decreases-loop-more
decreases-loop-more l = left_of (length l.relation.parts.next) l.claim (λ x. false) + cond l.more 1 0
