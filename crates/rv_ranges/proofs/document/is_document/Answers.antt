use Rattle.std.proofs.Common.{◌≤◌, length, IsTrue, rules, arith}
use Rattle.rv_proofs.specs.Counts.{HasCounts}
use Rattle.rv_ranges.proofs.Documenting.{made, unmade}
use Rattle.rv_ranges.proofs.document.is_document.Goals as goal

pub returns : goal.returns
returns c s of =
    let few : length c.args.certificate.now.locations ≤ 4096 = omega arith in
    let yes : IsTrue c.counts.result = search rules in
    let counts : HasCounts c.args.certificate.now = c.counts.ensures.0 yes in (
      (λ are. made s c.args.bounds.now of c.args.certificate.now few counts (c.are_locations.ensures.0 are)),
      (λ is. c.are_locations.ensures.1 (unmade s c.args.bounds.now of c.args.certificate.now is)),
    )
