use Rattle.std.proofs.Common.{◌≡◌, false}
use Rattle.rv_diagram.specs.Nodes.{Valuation}
use Rattle.rv_proofs.specs.RowClaims.{IsRowTaken}
use Rattle.rv_claims.specs.Claiming.{claim_of}
use Rattle.rv_reading.proofs.Analysed.{claiming, not_good}
use Rattle.rv_reading.proofs.analysis.plain_by_rows.Goals as goal

pub certify-requires : goal.certify-requires
certify-requires c =
    let (s, given, kept, least) = c.requires in (
      s,
      c.args.thresholds.now,
      claiming s c.args.store.now c.args.relation.now c.args.questions.now c.args.thresholds.now given,
      kept,
      least.closed,
      given.small,
    )

pub returns-in_ok-found-in-None-clause-claims : goal.returns-in_ok-found-in-None-clause-claims
returns-in_ok-found-in-None-clause-claims c = λ s given kept least has.
    let own = claiming s c.args.store.now c.args.relation.now c.args.questions.now c.args.thresholds.now given in
    let bad : (v : Valuation) × IsRowTaken s (claim_of c.args.claim.now) v × (s.observer v ≡ false) = rw c.in-None.is at
    c.in_ok-certificate.ensures.bad s c.args.thresholds.now own kept least.closed given.small in
    absurd (not_good s c.args.thresholds.now (claim_of c.args.claim.now) least
    (c.tighter_row_claims.ensures.good s c.args.thresholds.now (claim_of c.args.claim.now) least) bad has)
