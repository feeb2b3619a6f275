use Rattle.std.proofs.Common.{◌≡◌, ◌∙◌, ◌<◌, sym, subst, ap, length, arith, slice_get, ⊎_elim}
use Rattle.std.proofs.{lemmas.Bool.cases_lt, lemmas.Option.slice_get_within, lemmas.Option.same_Some}
use Rattle.rv_diagram.specs.Nodes.{Diagrams}
use Rattle.rv_proofs.specs.declared.certificate.Location.{Location}
use Rattle.rv_accept.specs.{Held.AreLedInto, Passing.IsGiven, Passing.AllPass}
use Rattle.rv_accept.proofs.Firsts.{before_location}
use Rattle.rv_accept.proofs.checker.locations_fault.Goals as goal

pub returns-in-Some-clause-exact : goal.returns-in-Some-clause-exact
returns-in-Some-clause-exact c = λ s g li starts.
    let h = rw c.in-Some.is at (c.in_ok-reason.ensures.exact s (subst (λ
    (d : Diagrams). IsGiven s d c.args.parts.now c.args.questions.now c.args.certificate.now) (sym c.loop-k.invariant.same) g) (subst (λ
    (d : Diagrams). AreLedInto s c.args.certificate.now d c.args.led.now) (sym c.loop-k.invariant.same) li)) in
    h (before_location s c.args.certificate.now c.loop-k.k starts (λ m l low at. c.loop-k.invariant.pass s g li m l low at))

pub loop-k-preserved : goal.loop-k-preserved
loop-k-preserved c = record {
  same = c.location_fault.ensures.same ∙ c.loop-k.invariant.same;
  pass = λ s g li i x low at. ⊎_elim (λ less. c.loop-k.invariant.pass s g li i x less at)
      (λ ge. let is : i ≡ c.loop-k.k = omega (arith, low) in
      let h = rw c.in_default.is at (c.in_ok-reason.ensures.exact s (subst (λ
      (d : Diagrams). IsGiven s d c.args.parts.now c.args.questions.now c.args.certificate.now) (sym c.loop-k.invariant.same) g) (subst (λ
      (d : Diagrams). AreLedInto s c.args.certificate.now d c.args.led.now) (sym c.loop-k.invariant.same) li)) in
      subst (λ (l : Location). AllPass s c.args.certificate.now l) (same_Some c.at-location.result.now x (sym c.at-location.ensures.value
      ∙ ap (λ n. slice_get c.args.certificate.now.locations n) (sym is) ∙ at)) h)
      (cases_lt i c.loop-k.k);
}

pub returns-clause-exact : goal.returns-clause-exact
returns-clause-exact c = λ s g li k l at. c.loop-k.invariant.pass s g li k l
    (let w : k < length c.args.certificate.now.locations = slice_get_within c.args.certificate.now.locations k l at in omega (arith, w)) at
