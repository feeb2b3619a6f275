use Rattle.std.proofs.Common.{◌≡◌, ◌+◌, cond, false, length}
use Rattle.rv_proofs.specs.Systems.{System}
use Rattle.rv_boxes.specs.{Claiming.claim_of, Orders.IsBelowClosed, Rounds.IsGiven, Rounds.IsKeptClaim, Rounds.left_of}
use Rattle.rv_least.specs.Rounds.{AreAsked, IsSettled}
use Rattle.rv_least.proofs.rounds.all_rounds.Given as goal

abbrev pub invariant-loop-more : goal.invariant-loop-more
invariant-loop-more l = record {
  same : l.store ≡ l.initial.store;
  kept : (s : System) → IsGiven s l.initial.store l.relation l.questions l.frame → AreAsked s l.initial.store l.questions l.asked
      → IsKeptClaim s l.frame l.fn.first → IsKeptClaim s l.frame l.claim;
  below : (s : System) → IsGiven s l.initial.store l.relation l.questions l.frame → AreAsked s l.initial.store l.questions l.asked
      → IsKeptClaim s l.frame l.fn.first → IsBelowClosed s l.frame.thresholds (claim_of l.fn.first)
      → IsBelowClosed s l.frame.thresholds (claim_of l.claim);
  settled : (s : System) → IsGiven s l.initial.store l.relation l.questions l.frame → AreAsked s l.initial.store l.questions l.asked
      → IsKeptClaim s l.frame l.fn.first → l.more ≡ false → IsSettled s l.claim l.good;
}

abbrev pub decreases-loop-more : goal.decreases-loop-more
decreases-loop-more l = left_of (length l.relation.parts.next) l.claim (λ x. false) + cond l.more 1 0
