use Rattle.std.proofs.Common.{arith, ap, length, IsTrue, rules}
use Rattle.rv_proofs.specs.Counts.{HasLocationCounts}
use Rattle.rv_proofs.proofs.Each.{each-more, each-all}
use Rattle.rv_proofs.proofs.certificate.Certificate.counts.Goals as goal

pub loop-location-preserved : goal.loop-location-preserved
loop-location-preserved c =
    let yes : IsTrue c.has_counts.result = search rules in
    each-more (HasLocationCounts c.args.self.now) c.args.self.now.locations c.loop-location.location-index c.location-item.result
    (omega (arith, ap length c.as_slice-location-items.ensures)) (search rules) c.loop-location.invariant (c.has_counts.ensures.0 yes)

pub returns : goal.returns
returns c = (
  (λ yes. each-all (HasLocationCounts c.args.self.now) c.args.self.now.locations c.loop-location.location-index
      (omega (arith, ap length c.as_slice-location-items.ensures)) c.loop-location.invariant),
  (λ counts. search rules),
)
