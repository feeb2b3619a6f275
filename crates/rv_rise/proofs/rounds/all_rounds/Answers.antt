use Rattle.std.proofs.Common.{◌≡◌, ◌∙◌, true, false, refl, length}
use Rattle.rv_rise.proofs.{Giving.given_there, Giving.asked_there, Growing.round_smaller, Rounding.least_of}
use Rattle.rv_rise.proofs.rounds.all_rounds.Goals as goal

pub loop-more-init : goal.loop-more-init
loop-more-init c = record {
  same = refl;
  kept = λ s given asked kept held. kept;
  held = λ s given asked kept held. held;
  below = λ s given asked kept held below. below;
  closed = λ s given asked kept held (e : true ≡ false). cc;
}

pub one_round-requires : goal.one_round-requires
one_round-requires c =
    let (s, given, asked, kept, held, below) = c.requires in (
      s,
      given_there s c.args.store.now c.loop-more.store c.args.relation.now c.args.questions.now c.args.frame.now c.loop-more.invariant.same given,
      asked_there s c.args.store.now c.loop-more.store c.args.asked.now c.loop-more.invariant.same asked,
      c.loop-more.invariant.kept s given asked kept held,
      λ e. c.loop-more.invariant.held s given asked kept held,
    )

pub loop-more-preserved : goal.loop-more-preserved
loop-more-preserved c = record {
  same = c.one_round.ensures.same ∙ c.loop-more.invariant.same;
  kept = λ s given asked kept held.
      let g = c.in_ok-grown.ensures.grown s
      (given_there s c.args.store.now c.loop-more.store c.args.relation.now c.args.questions.now c.args.frame.now c.loop-more.invariant.same given)
      (asked_there s c.args.store.now c.loop-more.store c.args.asked.now c.loop-more.invariant.same asked)
      (c.loop-more.invariant.kept s given asked kept held) (λ e. c.loop-more.invariant.held s given asked kept held) in
      g.kept;
  held = λ s given asked kept held.
      let g = c.in_ok-grown.ensures.grown s
      (given_there s c.args.store.now c.loop-more.store c.args.relation.now c.args.questions.now c.args.frame.now c.loop-more.invariant.same given)
      (asked_there s c.args.store.now c.loop-more.store c.args.asked.now c.loop-more.invariant.same asked)
      (c.loop-more.invariant.kept s given asked kept held) (λ e. c.loop-more.invariant.held s given asked kept held) in
      g.first;
  below = λ s given asked kept held below.
      let g = c.in_ok-grown.ensures.grown s
      (given_there s c.args.store.now c.loop-more.store c.args.relation.now c.args.questions.now c.args.frame.now c.loop-more.invariant.same given)
      (asked_there s c.args.store.now c.loop-more.store c.args.asked.now c.loop-more.invariant.same asked)
      (c.loop-more.invariant.kept s given asked kept held) (λ e. c.loop-more.invariant.held s given asked kept held) in
      g.below (c.loop-more.invariant.below s given asked kept held below);
  closed = λ s given asked kept held e.
      let g = c.in_ok-grown.ensures.grown s
      (given_there s c.args.store.now c.loop-more.store c.args.relation.now c.args.questions.now c.args.frame.now c.loop-more.invariant.same given)
      (asked_there s c.args.store.now c.loop-more.store c.args.asked.now c.loop-more.invariant.same asked)
      (c.loop-more.invariant.kept s given asked kept held) (λ e. c.loop-more.invariant.held s given asked kept held) in
      g.closed e;
}

pub loop-more-smaller : goal.loop-more-smaller
loop-more-smaller c =
    let (s, given, asked, kept, held, below) = c.requires in
    let relation = given.relation in
    let p = relation.parts in
    let g = c.in_ok-grown.ensures.grown s
    (given_there s c.args.store.now c.loop-more.store c.args.relation.now c.args.questions.now c.args.frame.now c.loop-more.invariant.same given)
    (asked_there s c.args.store.now c.loop-more.store c.args.asked.now c.loop-more.invariant.same asked)
    (c.loop-more.invariant.kept s given asked kept held) (λ e. c.loop-more.invariant.held s given asked kept held) in
    round_smaller s c.args.frame.now (length c.args.relation.now.parts.next) c.in_ok-grown.grown c.loop-more.more c.loop-more.claim c.one_round.new.claim
    p.states c.loop-more-test.true g

pub returns-clause-least : goal.returns-clause-least
returns-clause-least c s given asked kept held below =
    least_of s c.args.frame.now given.frame c.loop-more.claim (c.loop-more.invariant.kept s given asked kept held)
    (c.loop-more.invariant.below s given asked kept held below) (c.loop-more.invariant.closed s given asked kept held c.loop-more-test.false)
