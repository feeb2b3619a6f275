use Rattle.std.proofs.Common.{arith, ap, length, IsTrue, rules}
use Rattle.rv_proofs.proofs.Each.{each-more, each-all}
use Rattle.rv_ranges.specs.Documents.{IsRangedLocation}
use Rattle.rv_ranges.proofs.document.are_locations.Goals as goal

pub loop-location-preserved : goal.loop-location-preserved
loop-location-preserved c =
    let yes : IsTrue c.is_location.result = search rules in
    each-more (IsRangedLocation c.args.bounds.now) c.args.certificate.now.locations c.loop-location.location-index c.location-item.result
    (omega (arith, ap length c.as_slice-location-items.ensures)) (search rules) c.loop-location.invariant (c.is_location.ensures.0 yes)

pub returns : goal.returns
returns c = (
  (λ yes. each-all (IsRangedLocation c.args.bounds.now) c.args.certificate.now.locations c.loop-location.location-index
      (omega (arith, ap length c.as_slice-location-items.ensures)) c.loop-location.invariant),
  (λ are. search rules),
)
