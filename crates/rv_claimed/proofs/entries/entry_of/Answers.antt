use Rattle.std.proofs.Common.{◌∙◌}
use Rattle.rv_claimed.proofs.Entering.{within_of, few_of, numbers_few, show_of, made_entry, bad_case}
use Rattle.rv_claimed.proofs.entries.entry_of.Goals as goal

pub new-requires-clause-numbers : goal.new-requires-clause-numbers
new-requires-clause-numbers c =
    let (s, from, judge, setting, of) = c.requires in
    within_of s c.args.many c.args.claim.now judge from c.args.given.now setting c.args.case of c.in_ok-rows.rows c.in_ok-rows.ensures

pub new-requires-clause-few : goal.new-requires-clause-few
new-requires-clause-few c =
    let (s, from, judge, setting, of) = c.requires in
    few_of s c.args.many c.args.claim.now judge from c.args.given.now setting c.args.case of c.in_ok-rows.rows c.in_ok-rows.ensures

pub kind_of-requires-clause-are : goal.kind_of-requires-clause-are
kind_of-requires-clause-are c = c.in_ok-premises.ensures ∙ c.in_ok-rows.ensures

pub kind_of-requires-clause-numbers : goal.kind_of-requires-clause-numbers
kind_of-requires-clause-numbers c =
    let (s, from, judge, setting, of) = c.requires in
    numbers_few s c.args.many c.args.claim.now judge from c.args.given.now setting c.args.case of

pub kind_of-requires-clause-wanted : goal.kind_of-requires-clause-wanted
kind_of-requires-clause-wanted c =
    let (s, from, judge, setting, of) = c.requires in
    show_of s c.args.many c.args.claim.now judge from c.args.given.now setting c.args.case of c.in_ok-premises.premises
    (c.in_ok-premises.ensures ∙ c.in_ok-rows.ensures)

pub returns-in-Some : goal.returns-in-Some
returns-in-Some c s from judge setting of =
    made_entry s c.args.many c.args.claim.now judge from c.args.given.now setting c.args.case of c.in-Some.kind (rw c.in-Some.is at c.in_ok-kind.ensures)

pub returns-in-None : goal.returns-in-None
returns-in-None c s from judge setting of =
    let (off, opened) = rw c.in-None.is at c.in_ok-kind.ensures in
    bad_case s c.args.many c.args.claim.now judge from c.args.given.now setting c.args.case of off opened
