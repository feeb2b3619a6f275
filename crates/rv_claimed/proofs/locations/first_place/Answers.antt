use Rattle.rv_claimed.proofs.Assembling.{first_setting}
use Rattle.rv_claimed.proofs.locations.first_place.Goals as goal

pub placed-requires : goal.placed-requires
placed-requires c =
    let (s, others, are) = c.requires in
    let st = are.is_start in
    (s, are.judge, rw c.new-nothing.ensures (first_setting s c.args.many c.args.claim.now c.args.start others are), st.cases)

pub returns : goal.returns
returns c s others are =
    let st = are.is_start in
    rw c.new-nothing.ensures at c.placed.ensures s are.judge
    (first_setting s c.args.many c.args.claim.now c.args.start others are) st.cases
