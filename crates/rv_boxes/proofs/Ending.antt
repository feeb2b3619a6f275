-- How a pass ends.
use Rattle.std.proofs.Common.{◌↔◌, ℤ, List}
use Rattle.rv_proofs.specs.Boxes.{IsGood, HasGoodBox}
use Rattle.rv_proofs.specs.{Systems.System, Reached.AreLayers, declared.certificate.Certificate.Certificate, declared.report.Layers.Layers}
use Rattle.rv_proofs.proofs.Leasts.{least_good}
use Rattle.rv_walk.specs.{declared.end.BoxEnd.BoxEnd, declared.end.BoxEnd.TheVariants.Good, declared.end.BoxEnd.TheVariants.Bad, Ends.IsGoodEnd}
use Rattle.rv_boxes.specs.Passing.{IsProof, IsEndOf}
use Rattle.rv_boxes.specs.{declared.frame.Frame.Frame, declared.claim.Claim.Claim, Claiming.claim_of, Rounds.IsLeastClaim, Certifying.IsBad}
use Rattle.rv_base.proofs.Truths.{clash}

pub ends_good : (s : System) (f : Frame) (c : Claim) (x : Certificate) → IsLeastClaim s f c → IsProof s x → IsGood s (claim_of c)
    → IsEndOf s f.thresholds (Good x)
ends_good s f c x least proof good = let m = least.least in (proof, (claim_of c, m.claim, m.closed, good))

pub ends_bad : (s : System) (f : Frame) (c : Claim) (l : Layers) → IsLeastClaim s f c → IsBad s (claim_of c) → AreLayers s (claim_of c) l.sets
    → IsEndOf s f.thresholds (Bad l)
ends_bad s f c l least (v, taken, bad) layers =
    ((λ has. clash (s.observer v) (least_good s f.thresholds (claim_of c) least.least has v taken) bad), (claim_of c, least.least, layers))

pub exactly : (s : System) (thresholds : List ℤ) (e : BoxEnd) → IsEndOf s thresholds e → IsGoodEnd e ↔ HasGoodBox s thresholds
exactly s thresholds (Good x) (proof, has) = ((λ _. has), (λ _. tt))
exactly s thresholds (Bad l) (none, _) = ((λ i. absurd i), (λ has. absurd (none has)))
