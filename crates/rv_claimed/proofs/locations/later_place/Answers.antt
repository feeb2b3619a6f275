use Rattle.rv_claimed.proofs.Assembling.{others_setting}
use Rattle.rv_claimed.proofs.locations.later_place.Goals as goal

pub placed-requires : goal.placed-requires
placed-requires c =
    let (s, start, are) = c.requires in
    let ot = are.are_others in
    (s, are.judge, rw c.in_ok-rows.ensures (others_setting s c.args.many c.args.claim.now start c.args.others are), ot.cases)

pub returns : goal.returns
returns c s start are =
    let ot = are.are_others in
    rw c.in_ok-rows.ensures at c.placed.ensures s are.judge
    (others_setting s c.args.many c.args.claim.now start c.args.others are) ot.cases
