use Rattle.std.proofs.Common.{◌<◌, ◌^◌, arith, length}
use Rattle.rv_claims.specs.Claiming.{claim_of}
use Rattle.rv_claimed.proofs.{Entering.cases_in, Assembling.place_of}
use Rattle.rv_claimed.proofs.locations.placed.Goals as goal

pub entries-requires : goal.entries-requires
entries-requires c =
    let (s, judge, setting, are) = c.requires in
    (s, c.args.part.control, judge, setting, cases_in s c.args.part.control c.args.part.cases are)

pub returns : goal.returns
returns c s judge setting are =
    let entries = rw c.in-Some.is at c.in_ok-entries.ensures s c.args.part.control judge setting (cases_in s c.args.part.control c.args.part.cases are) in
    let few : length c.args.part.cases < 2 ^ 32 = omega (arith, c.len.ensures, c.if-len-gt-MOST.false) in
    place_of s (claim_of c.args.claim.now) c.args.part.control c.args.rows setting c.args.part.cases are few c.in-Some.entries entries
    c.in_ok-location.location c.in_ok-location.ensures

pub returns-in_default : goal.returns-in_default
returns-in_default c s judge setting are =
    rw c.in_default.is at c.in_ok-entries.ensures s c.args.part.control judge setting (cases_in s c.args.part.control c.args.part.cases are)
