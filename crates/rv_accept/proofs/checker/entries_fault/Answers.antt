use Rattle.std.proofs.Common.{◌≡◌, ◌∙◌, ◌<◌, ◌^◌, sym, subst, ap, length, arith, slice_get, ⊎_elim}
use Rattle.std.proofs.{lemmas.Bool.cases_lt, lemmas.Option.slice_get_within}
use Rattle.rv_diagram.specs.Nodes.{Diagrams}
use Rattle.rv_proofs.specs.Systems.{System}
use Rattle.rv_accept.specs.{Held.IsWithin, Held.AreLedInto, Passing.IsGiven}
use Rattle.rv_accept.proofs.Firsts.{before_entry}
use Rattle.rv_base.proofs.Lists.{item_at}
use Rattle.rv_accept.proofs.checker.entries_fault.Goals as goal

pub overflow_cast-j : goal.overflow_cast-j
overflow_cast-j c = let (s, g, w, li) = c.requires.given in let few : length c.args.location.now.entries < 2 ^ 32 =
    (g.range.locations c.args.k c.args.location.now c.requires.at).few in omega arith

pub returns-in-Some-clause-exact : goal.returns-in-Some-clause-exact
returns-in-Some-clause-exact c = λ s g w li before included covers.
    let (e, at) = item_at c.args.location.now.entries c.loop-j.j (let low : c.loop-j.j < length c.args.location.now.entries = omega
    (arith, c.loop-j-test.true, c.len-j-end.ensures) in low) in
    let h = rw c.in-Some.is at (c.in_ok-reason.ensures.exact s (subst (λ
    (d : Diagrams). IsGiven s d c.args.parts.now c.args.questions.now c.args.certificate.now) (sym c.loop-j.invariant.same) g) (subst (λ
    (d : Diagrams). IsWithin s c.args.location.now d c.args.within) (sym c.loop-j.invariant.same) w) (subst (λ
    (d : Diagrams). AreLedInto s c.args.certificate.now d c.args.led.now) (sym c.loop-j.invariant.same) li) e at) in
    h (before_entry s c.args.certificate.now c.args.k c.args.location.now c.requires.at before c.loop-j.j included covers (c.loop-j.invariant.pass s g w li))

pub loop-j-preserved : goal.loop-j-preserved
loop-j-preserved c = record {
  same = c.entry_fault.ensures.same ∙ c.loop-j.invariant.same;
  pass = λ s g w li i e low at. ⊎_elim (λ less. c.loop-j.invariant.pass s g w li i e less at)
      (λ ge. let is : i ≡ c.loop-j.j = omega (arith, low) in
      rw c.in_default.is at (c.in_ok-reason.ensures.exact s (subst (λ
      (d : Diagrams). IsGiven s d c.args.parts.now c.args.questions.now c.args.certificate.now) (sym c.loop-j.invariant.same) g) (subst (λ
      (d : Diagrams). IsWithin s c.args.location.now d c.args.within) (sym c.loop-j.invariant.same) w) (subst (λ
      (d : Diagrams). AreLedInto s c.args.certificate.now d c.args.led.now) (sym c.loop-j.invariant.same) li) e (ap
      (λ n. slice_get c.args.location.now.entries n) (sym is) ∙ at)))
      (cases_lt i c.loop-j.j);
}

pub returns-clause-exact : goal.returns-clause-exact
returns-clause-exact c = λ s g w li j e at. c.loop-j.invariant.pass s g w li j e
    (let k : j < length c.args.location.now.entries = slice_get_within c.args.location.now.entries j e at in omega (arith, k)) at

pub entry_fault-requires-clause-given : goal.entry_fault-requires-clause-given
entry_fault-requires-clause-given c = subst (λ (d : Diagrams). (x : System) × IsGiven x d c.args.parts.now c.args.questions.now c.args.certificate.now
    × IsWithin x c.args.location.now d c.args.within × AreLedInto x c.args.certificate.now d c.args.led.now) (sym c.loop-j.invariant.same) c.requires.given
