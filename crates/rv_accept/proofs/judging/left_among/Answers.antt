use Rattle.std.proofs.Common.{◌≡◌, ◌∙◌, ◌+◌, ℕ, List, refl, sym, subst, length, arith}
use Rattle.rv_diagram.specs.Nodes.{Diagrams}
use Rattle.rv_accept.specs.{Held.AreLedInto, Passing.IsGiven, Judging.AreLocated}
use Rattle.rv_accept.proofs.Judgment.{located_start, located_more}
use Rattle.rv_accept.proofs.judging.left_among.Goals as goal

pub loop-k-init : goal.loop-k-init
loop-k-init c = record { same = refl; located = λ s g li. subst (λ (l : List ℕ). AreLocated s c.args.certificate.now 0 l) (sym c.new-left.ensures)
    (located_start s c.args.certificate.now) }

pub location_standing-requires-clause-given : goal.location_standing-requires-clause-given
location_standing-requires-clause-given c = let (s, g, li) = c.requires.given in (
  s,
  subst (λ (d : Diagrams). IsGiven s d c.args.parts.now c.args.questions.now c.args.certificate.now) (sym c.loop-k.invariant.same) g,
  subst (λ (d : Diagrams). AreLedInto s c.args.certificate.now d c.args.led.now) (sym c.loop-k.invariant.same) li,
)

pub returns-in_default-clause-exact : goal.returns-in_default-clause-exact
returns-in_default-clause-exact c = λ s g li. (
  c.loop-k.k,
  c.at-location.result.now,
  c.at-location.ensures.value,
  rw c.in_default.is at (c.in_ok-found.ensures.exact s (subst (λ
      (d : Diagrams). IsGiven s d c.args.parts.now c.args.questions.now c.args.certificate.now) (sym c.loop-k.invariant.same) g) (subst (λ
      (d : Diagrams). AreLedInto s c.args.certificate.now d c.args.led.now) (sym c.loop-k.invariant.same) li)),
)

pub returns-clause-exact : goal.returns-clause-exact
returns-clause-exact c = λ s g li. subst (λ (n : ℕ). AreLocated s c.args.certificate.now n c.loop-k.left)
    (let e : c.loop-k.k ≡ length c.args.certificate.now.locations = omega (arith, c.loop-k-test.false, c.len-k-end.ensures) in e)
    (c.loop-k.invariant.located s g li)

pub loop-k-preserved : goal.loop-k-preserved
loop-k-preserved c = record {
  same = c.location_standing.ensures.same ∙ c.loop-k.invariant.same;
  located = λ s g li.
      let h = rw c.in-Some.is at (c.in_ok-found.ensures.exact s (subst (λ
      (d : Diagrams). IsGiven s d c.args.parts.now c.args.questions.now c.args.certificate.now) (sym c.loop-k.invariant.same) g) (subst (λ
      (d : Diagrams). AreLedInto s c.args.certificate.now d c.args.led.now) (sym c.loop-k.invariant.same) li)) in
      subst (λ (l : List ℕ). AreLocated s c.args.certificate.now (c.loop-k.k + 1) l) (sym c.in_ok-add_left.ensures)
      (located_more s c.args.certificate.now c.loop-k.k c.loop-k.left c.at-location.result.now c.at-location.ensures.value (c.loop-k.invariant.located s g li)
      c.in-Some.is_left h);
}
