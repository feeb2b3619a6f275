-- Rounds over all valuations that a claim takes, each of which loosens the claim.
use Rattle.std.specs.Prelude.{◌≡◌, ◌⊎◌, ℕ, pos, negsuc, List, [], length, Bool, true, false, IsTrue}
use Rattle.rv_diagram.specs.{declared.Triple.Triple, Nodes.Valuation, Nodes.Diagrams, Nodes.value_of}
use Rattle.rv_proofs.specs.{Systems.System, Systems.HasSameState, Scopes.IsIn, Ranges.IsControlSet}
use Rattle.rv_proofs.specs.Boxes.{BoxClaim, IsTaken, IsClosed, IsGood}
use Rattle.rv_symbolic.specs.declared.relation.NextStates.{NextStates}
use Rattle.rv_cases.specs.declared.asking.Questions.{Questions}
use Rattle.rv_ends.specs.Sides.{AreEndsOf}
use Rattle.rv_boxes.specs.{declared.frame.Frame.Frame, declared.claim.Claim.Claim, Claiming.claim_of, Limits.HasChanged, Certifying.IsBad}
use Rattle.rv_boxes.specs.Rounds.{HasGrown, IsLeastClaim}
use Rattle.rv_least.specs.{declared.rounds.Asked.Asked, declared.rounds.Steps.Steps, declared.rounds.Round.Round, declared.rounds.Closed.Closed}
use Rattle.rv_least.specs.{Turned.AreAllTurned, Rising.AreRisen}

-- What is asked once for all rounds: the ends that the tests alone give the columns, and what the memories and their opposites become.
pub record AreAsked (s : System) (d : Diagrams) (q : Questions) (a : Asked) : Type 0 where
  pub tests : AreEndsOf s d.nodes [] [] a.tests
  pub updates : AreAllTurned s d.nodes q (pos 1) s.memories a.updates
  pub opposites : AreAllTurned s d.nodes q (negsuc 0) s.memories a.opposites

-- Whether the second reference is true wherever the first is.
pub record IsGoodAt (nodes : List Triple) (taken observer : ℕ) (good : Bool) : Type 0 where
  pub all_good : good ≡ true → (v : Valuation) → value_of nodes taken v ≡ true → value_of nodes observer v ≡ true
  pub some_bad : good ≡ false → (v : Valuation) × (value_of nodes taken v ≡ true) × (value_of nodes observer v ≡ false)

-- The set holds next control states of valuations that the claim takes, each of which leads into it or into the claim's own set, and good says whether
-- the observer is true at each of these valuations.
pub record AreNextOf (s : System) (c : BoxClaim) (n : NextStates) : Type 0 where
  pub control : IsControlSet s n.set
  pub made : (v : Valuation) → IsIn n.set v → (w : Valuation) × IsTaken s c w × HasSameState s (s.next w) v
  pub there : (w : Valuation) → IsTaken s c w → (IsIn n.set (s.next w)) ⊎ IsTrue (c.reached (s.next w))
  pub all_good : n.good ≡ true → IsGood s c
  pub some_bad : n.good ≡ false → IsBad s c

-- What follows from a claim: the next control states, and its limits, risen.
pub record AreSteps (s : System) (f : Frame) (c : Claim) (x : Steps) : Type 0 where
  pub next : AreNextOf s (claim_of c) x.next
  pub upper : AreRisen s (claim_of c) f.thresholds (pos 1) (length c.upper) c.upper x.upper.limits
  pub upper_changed : HasChanged x.upper.changed c.upper x.upper.limits
  pub lower : AreRisen s (claim_of c) f.opposites (negsuc 0) (length c.lower) c.lower x.lower.limits
  pub lower_changed : HasChanged x.lower.changed c.lower x.lower.limits

-- The claim has grown by what all valuations do that it takes, and it is known whether the observer is true at each of these.
pub record IsRound (s : System) (f : Frame) (old new : Claim) (r : Round) : Type 0 where
  pub grown : HasGrown s f (claim_of old) (λ v. Unit {0}) r.changed old new
  pub all_good : r.good ≡ true → IsGood s (claim_of old)
  pub some_bad : r.good ≡ false → IsBad s (claim_of old)

-- The claim is closed, and it is known whether it is good.
pub record IsSettled (s : System) (c : Claim) (good : Bool) : Type 0 where
  pub closed : IsClosed s (claim_of c)
  pub all_good : good ≡ true → IsGood s (claim_of c)
  pub some_bad : good ≡ false → IsBad s (claim_of c)

-- The claim is the least closed one, and it is known whether it is good.
pub record IsLeastOf (s : System) (f : Frame) (c : Closed) : Type 0 where
  pub least : IsLeastClaim s f c.claim
  pub all_good : c.good ≡ true → IsGood s (claim_of c.claim)
  pub some_bad : c.good ≡ false → IsBad s (claim_of c.claim)
