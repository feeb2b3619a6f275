use Rattle.std.proofs.Common.{arith}
use Rattle.rv_boxes.proofs.{Fitting.has_tests, Stepping.premises_are, Entering.can_reach, Entering.entry_good, Entering.entry_bad}
use Rattle.rv_boxes.proofs.entries.entry_of.Goals as goal

pub told_rows-requires : goal.told_rows-requires
told_rows-requires c =
    let (s, d, from, judge, setting, of) = c.requires in
    has_tests s judge.system c.args.frame.now judge.frame c.args.case of.case

pub kind_of-requires-clause-premises : goal.kind_of-requires-clause-premises
kind_of-requires-clause-premises c =
    let (s, d, from, judge, setting, of) = c.requires in
    premises_are s judge.system c.args.frame.now judge.frame d from c.args.given.now setting c.args.case of.case c.new-premises.result
    (record { told = c.in_ok-told.told; is_told = c.in_ok-told.ensures; are = c.new-premises.ensures })

pub kind_of-requires-clause-few : goal.kind_of-requires-clause-few
kind_of-requires-clause-few c =
    let (s, d, from, judge, setting, of) = c.requires in
    let f = judge.frame in
    let y = judge.system in
    let l = y.limits in
    omega (arith, f.columns, l.columns)

pub kind_of-requires-clause-wanted : goal.kind_of-requires-clause-wanted
kind_of-requires-clause-wanted c =
    let (s, d, from, judge, setting, of) = c.requires in
    can_reach s c.args.frame.now d c.args.wanted.now judge from c.args.given.now setting c.args.case of c.new-premises.result
    (record { told = c.in_ok-told.told; is_told = c.in_ok-told.ensures; are = c.new-premises.ensures })

pub returns-in-Some-clause-some : goal.returns-in-Some-clause-some
returns-in-Some-clause-some c s d from judge setting of =
    let built = rw c.in-Some.is at c.in_ok-kind.ensures.built in
    let good = rw c.in-Some.is at c.in_ok-kind.ensures.good in
    entry_good s c.args.frame.now d c.args.wanted.now judge from c.args.given.now setting c.args.case of c.new-premises.result
    (record { told = c.in_ok-told.told; is_told = c.in_ok-told.ensures; are = c.new-premises.ensures }) c.in-Some.kind built good

pub returns-in-None-clause-none : goal.returns-in-None-clause-none
returns-in-None-clause-none c s d from judge setting of =
    let opened = rw c.in-None.is at c.in_ok-kind.ensures.opened in
    let bad = rw c.in-None.is at c.in_ok-kind.ensures.bad in
    entry_bad s c.args.frame.now d c.args.wanted.now judge from c.args.given.now setting c.args.case of c.new-premises.result
    (record { told = c.in_ok-told.told; is_told = c.in_ok-told.ensures; are = c.new-premises.ensures }) opened bad
