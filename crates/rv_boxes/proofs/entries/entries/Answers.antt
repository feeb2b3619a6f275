use Rattle.std.proofs.Common.{◌≡◌, ◌∙◌, ◌++◌, ◌∷◌, [], List, length, subst, sym, ap}
use Rattle.rv_proofs.specs.{declared.certificate.Entry.Entry, declared.report.Case.Case}
use Rattle.rv_boxes.specs.Certifying.{IsEntryOf, AreEntriesOf}
use Rattle.rv_boxes.proofs.Reaching.{entries_more}
use Rattle.rv_base.proofs.Lists.{none_left, seam_along, seam_at}
use Rattle.rv_boxes.proofs.entries.entries.Goals as goal

pub entry_of-requires : goal.entry_of-requires
entry_of-requires c =
    let (s, d, from, judge, setting, are) = c.requires in
    let at = seam_at c.args.cases c.loop-case.yielded c.next.new.self.rest.items c.in-Some.case (c.loop-case.invariant.all
    ∙ ap (λ xs. c.loop-case.yielded ++ xs) c.in-Some.ensures.steps.0) in
    (s, d, from, judge, setting, are (length c.loop-case.yielded) c.in-Some.case at)

pub loop-case-preserved : goal.loop-case-preserved
loop-case-preserved c = record {
  all = seam_along c.args.cases c.loop-case.yielded c.loop-case.case-iterator.rest.items c.next.new.self.rest.items c.in-Some.case
      c.loop-case.invariant.all c.in-Some.ensures.steps.0;
  entries = λ s d from judge setting are.
      let at = seam_at c.args.cases c.loop-case.yielded c.next.new.self.rest.items c.in-Some.case (c.loop-case.invariant.all
      ∙ ap (λ xs. c.loop-case.yielded ++ xs) c.in-Some.ensures.steps.0) in
      let case_in = are (length c.loop-case.yielded) c.in-Some.case at in
      let entry : IsEntryOf s d from c.args.given.now c.args.wanted.now c.in-Some.case c.in-Some-2.entry = rw c.in-Some-2.is at
      c.in_ok-entry.ensures.some s d from judge setting case_in in
      subst (λ (es : List Entry). AreEntriesOf s d from c.args.given.now c.args.wanted.now (c.loop-case.yielded ++ c.in-Some.case ∷ [])
      (length (c.loop-case.yielded ++ c.in-Some.case ∷ [])) es)
      (sym c.in_ok-push-in-Some-2.ensures.ok)
      (entries_more s d from c.args.given.now c.args.wanted.now c.loop-case.yielded c.loop-case.list c.in-Some.case c.in-Some-2.entry
      (c.loop-case.invariant.entries s d from judge setting are) entry);
}

pub returns-clause-some : goal.returns-clause-some
returns-clause-some c s d from judge setting are =
    let e : c.loop-case.yielded ≡ c.args.cases = none_left c.args.cases c.loop-case.yielded c.loop-case.case-iterator.rest.items c.loop-case.invariant.all
    (sym c.loop-case.case-iterator.rest.ok.0 ∙ c.in-None.ensures.steps.0) in
    subst (λ (cs : List Case). AreEntriesOf s d from c.args.given.now c.args.wanted.now cs (length cs) c.loop-case.list) e
    (c.loop-case.invariant.entries s d from judge setting are)

pub returns-in-None-2-clause-none : goal.returns-in-None-2-clause-none
returns-in-None-2-clause-none c s d from judge setting are =
    let at = seam_at c.args.cases c.loop-case.yielded c.next.new.self.rest.items c.in-Some.case (c.loop-case.invariant.all
    ∙ ap (λ xs. c.loop-case.yielded ++ xs) c.in-Some.ensures.steps.0) in
    rw c.in-None-2.is at c.in_ok-entry.ensures.none s d from judge setting (are (length c.loop-case.yielded) c.in-Some.case at)
