use Rattle.std.proofs.Common.{arith, ap, length, rules}
use Rattle.rv_proofs.specs.Counts.{HasLoop}
use Rattle.rv_proofs.specs.declared.certificate.Location.{Location}
use Rattle.rv_proofs.proofs.Each.{each-more, each-all}
use Rattle.rv_ranges.proofs.Documenting.{plain_of}
use Rattle.rv_ranges.proofs.document.is_plain.Goals as goal

pub loop-location-preserved : goal.loop-location-preserved
loop-location-preserved c =
    each-more (λ (m : Location). ¬ HasLoop m) c.args.certificate.now.locations c.loop-location.location-index c.location-item.result
    (omega (arith, ap length c.as_slice-location-items.ensures)) (search rules) c.loop-location.invariant (search rules)

pub returns : goal.returns
returns c =
    let all = each-all (λ (m : Location). ¬ HasLoop m) c.args.certificate.now.locations c.loop-location.location-index
    (omega (arith, ap length c.as_slice-location-items.ensures)) c.loop-location.invariant in
    record {
      exact = ((λ yes. all), (λ is. search rules));
      plain = λ s is yes. plain_of s c.args.certificate.now is all;
    }
