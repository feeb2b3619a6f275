use Rattle.std.proofs.Common.{◌≡◌, ◌∙◌, ◌++◌, ◌∷◌, [], List, length, subst, sym, ap}
use Rattle.rv_proofs.specs.{declared.certificate.Entry.Entry, declared.report.Case.Case}
use Rattle.rv_claims.specs.Claiming.{claim_of}
use Rattle.rv_claimed.specs.Certifying.{AreEntriesOf}
use Rattle.rv_claimed.proofs.Reaching.{entries_more}
use Rattle.rv_base.proofs.Lists.{none_left, seam_along, seam_at}
use Rattle.rv_claimed.proofs.entries.entries.Goals as goal

pub entry_of-requires : goal.entry_of-requires
entry_of-requires c =
    let (s, from, judge, setting, are) = c.requires in
    let at = seam_at c.args.cases c.loop-case.yielded c.next.new.self.rest.items c.in-Some.case (c.loop-case.invariant.all
    ∙ ap (λ xs. c.loop-case.yielded ++ xs) c.in-Some.ensures.steps.0) in
    (s, from, judge, setting, are (length c.loop-case.yielded) c.in-Some.case at)

pub loop-case-preserved : goal.loop-case-preserved
loop-case-preserved c = record {
  all = seam_along c.args.cases c.loop-case.yielded c.loop-case.case-iterator.rest.items c.next.new.self.rest.items c.in-Some.case
      c.loop-case.invariant.all c.in-Some.ensures.steps.0;
  listed = λ s from judge setting are.
      let at = seam_at c.args.cases c.loop-case.yielded c.next.new.self.rest.items c.in-Some.case (c.loop-case.invariant.all
      ∙ ap (λ xs. c.loop-case.yielded ++ xs) c.in-Some.ensures.steps.0) in
      let made = rw c.in-Some-2.is at c.in_ok-entry.ensures s from judge setting (are (length c.loop-case.yielded) c.in-Some.case at) in
      subst (λ (es : List Entry). AreEntriesOf s (claim_of c.args.claim.now) c.args.given.now (c.loop-case.yielded ++ c.in-Some.case ∷ []) es)
      (sym c.in_ok-push-in-Some-2.ensures.ok)
      (entries_more s (claim_of c.args.claim.now) c.args.given.now c.loop-case.yielded c.loop-case.entries c.in-Some.case c.in-Some-2.entry
      (c.loop-case.invariant.listed s from judge setting are) made);
}

pub returns-in-None-2 : goal.returns-in-None-2
returns-in-None-2 c s from judge setting are =
    let at = seam_at c.args.cases c.loop-case.yielded c.next.new.self.rest.items c.in-Some.case (c.loop-case.invariant.all
    ∙ ap (λ xs. c.loop-case.yielded ++ xs) c.in-Some.ensures.steps.0) in
    rw c.in-None-2.is at c.in_ok-entry.ensures s from judge setting (are (length c.loop-case.yielded) c.in-Some.case at)

pub returns : goal.returns
returns c s from judge setting are =
    let e : c.loop-case.yielded ≡ c.args.cases = none_left c.args.cases c.loop-case.yielded c.loop-case.case-iterator.rest.items c.loop-case.invariant.all
    (sym c.loop-case.case-iterator.rest.ok.0 ∙ c.in-None.ensures.steps.0) in
    subst (λ (cs : List Case). AreEntriesOf s (claim_of c.args.claim.now) c.args.given.now cs c.loop-case.entries) e
    (c.loop-case.invariant.listed s from judge setting are)
