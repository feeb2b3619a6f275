use Rattle.std.proofs.Common.{◌<◌, ◌^◌, arith, length}
use Rattle.rv_boxes.proofs.{Entering.cases_in, Assembling.part_of}
use Rattle.rv_boxes.proofs.locations.part.Goals as goal

pub entries-requires : goal.entries-requires
entries-requires c = let (s, d, judge, setting, are) = c.requires in (s, d, c.args.control, judge, setting, cases_in s c.args.control c.args.cases are)

pub returns-in_ok-location-in-Some-clause-some : goal.returns-in_ok-location-in-Some-clause-some
returns-in_ok-location-in-Some-clause-some c s d judge setting are =
    let list = rw c.in-Some.is at c.in_ok-entries.ensures.some s d c.args.control judge setting (cases_in s c.args.control c.args.cases are) in
    let few : length c.args.cases < 2 ^ 32 = omega (arith, c.len.ensures, c.if-len-gt-MOST.false) in
    part_of s d c.args.control c.args.rows c.args.wanted.now setting c.args.cases are few c.in-Some.entries list c.in_ok-location-in-Some.field-0
    c.in_ok-location-in-Some.ensures

pub returns-in-None-clause-none : goal.returns-in-None-clause-none
returns-in-None-clause-none c s d judge setting are =
    rw c.in-None.is at c.in_ok-entries.ensures.none s d c.args.control judge setting (cases_in s c.args.control c.args.cases are)
