use Rattle.std.proofs.Common.{◌≡◌, ◌∙◌, ◌+◌, ◌<◌, ◌^◌, ℕ, refl, sym, subst, length, arith}
use Rattle.rv_diagram.specs.Nodes.{Diagrams}
use Rattle.rv_proofs.specs.Systems.{System}
use Rattle.rv_accept.specs.{Held.IsWithin, Held.AreLedInto, Passing.IsGiven, Judging.AreStanding}
use Rattle.rv_accept.specs.declared.judging.Standing.{Standing}
use Rattle.rv_accept.proofs.Judgment.{standing_more, standing_start}
use Rattle.rv_base.proofs.Lists.{item_at}
use Rattle.rv_accept.proofs.judging.entries_standing.Goals as goal

pub overflow_cast-j : goal.overflow_cast-j
overflow_cast-j c = let (s, g, w, li) = c.requires.given in let few : length c.args.location.now.entries < 2 ^ 32 =
    (g.range.locations c.args.k c.args.location.now c.requires.at).few in omega arith

pub entry_standing-requires-clause-given : goal.entry_standing-requires-clause-given
entry_standing-requires-clause-given c = subst (λ
    (d : Diagrams). (x : System) × IsGiven x d c.args.parts.now c.args.questions.now c.args.certificate.now
    × IsWithin x c.args.location.now d c.args.within × AreLedInto x c.args.certificate.now d c.args.led.now) (sym c.loop-j.invariant.same) c.requires.given

pub loop-j-init : goal.loop-j-init
loop-j-init c = record { same = refl; standing = λ s g w li. standing_start s c.args.certificate.now c.args.location.now }

pub loop-j-preserved : goal.loop-j-preserved
loop-j-preserved c = record {
  same = c.entry_standing.ensures.same ∙ c.loop-j.invariant.same;
  standing = λ s g w li.
      let (e, at) = item_at c.args.location.now.entries c.loop-j.j (let low : c.loop-j.j < length c.args.location.now.entries = omega
      (arith, c.loop-j-test.true, c.len-j-end.ensures) in low) in
      let here = c.in_ok-next.ensures.exact s (subst (λ
      (d : Diagrams). IsGiven s d c.args.parts.now c.args.questions.now c.args.certificate.now) (sym c.loop-j.invariant.same) g) (subst (λ
      (d : Diagrams). IsWithin s c.args.location.now d c.args.within) (sym c.loop-j.invariant.same) w) (subst (λ
      (d : Diagrams). AreLedInto s c.args.certificate.now d c.args.led.now) (sym c.loop-j.invariant.same) li) e at in
      subst (λ (x : Standing). AreStanding s c.args.certificate.now c.args.location.now (c.loop-j.j + 1) x) (sym c.worse-worst.ensures)
      (standing_more s c.args.certificate.now c.args.location.now c.loop-j.j e at c.loop-j.worst c.in_ok-next.next (c.loop-j.invariant.standing s g w li) here);
}

pub returns-clause-exact : goal.returns-clause-exact
returns-clause-exact c = λ s g w li. subst (λ (n : ℕ). AreStanding s c.args.certificate.now c.args.location.now n c.loop-j.worst)
    (let e : c.loop-j.j ≡ length c.args.location.now.entries = omega (arith, c.loop-j-test.false, c.len-j-end.ensures) in e)
        (c.loop-j.invariant.standing s g w li)
