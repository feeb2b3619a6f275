use Rattle.rv_walk.specs.Ends.{has}
use Rattle.rv_ends.specs.{Sides.AreEndsOf, Claiming.claim_with}
use Rattle.rv_taken.specs.Taken.{IsTakenAt}
use Rattle.rv_boxes.specs.Claiming.{claim_of}
use Rattle.rv_least.specs.Opened.{IsOpenedAt}
use Rattle.rv_least.proofs.Opening.{is_asked, is_limited, is_opened, both_ok}
use Rattle.rv_least.proofs.opened.opened.Goals as goal

pub open_claim-requires : goal.open_claim-requires
open_claim-requires c =
    let (s, f, given, tests, kept) = c.requires in (
      s,
      is_asked s c.args.store.now c.args.relation.now c.args.questions.now f given c.parts.result.now c.parts.ensures,
      tests,
      is_limited s f given.frame c.args.claim.now kept,
    )

pub returns-clause-opened : goal.returns-clause-opened
returns-clause-opened c s f given tests kept =
    let asked = is_asked s c.args.store.now c.args.relation.now c.args.questions.now f given c.parts.result.now c.parts.ensures in
    let limited = is_limited s f given.frame c.args.claim.now kept in
    both_ok c.open_claim.result
    (λ o. IsTakenAt s c.open_claim.new.store (claim_with (has c.args.claim.now.reached) c.args.claim.now.upper c.args.claim.now.lower) o.taken)
    (λ o. AreEndsOf s c.open_claim.new.store.nodes c.args.claim.now.upper c.args.claim.now.lower o.ends)
    (IsOpenedAt s c.open_claim.new.store (claim_of c.args.claim.now))
    (λ o t e. is_opened s f c.open_claim.new.store c.args.claim.now o kept t e)
    (c.open_claim.ensures.taken s asked tests limited) (c.open_claim.ensures.ends s asked tests limited)
