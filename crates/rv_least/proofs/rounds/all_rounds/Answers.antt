use Rattle.std.proofs.Common.{◌≡◌, ◌∙◌, true, false, refl, length}
use Rattle.rv_boxes.proofs.Giving.{given_there}
use Rattle.rv_least.proofs.{Growing.settled_of, Growing.least_found, Growing.round_smaller, Opening.asked_there}
use Rattle.rv_least.proofs.rounds.all_rounds.Goals as goal

pub loop-more-init : goal.loop-more-init
loop-more-init c = record {
  same = refl;
  kept = λ s given asked kept. kept;
  below = λ s given asked kept below. below;
  settled = λ s given asked kept (e : true ≡ false). cc;
}

pub one_round-requires : goal.one_round-requires
one_round-requires c =
    let (s, given, asked, kept, below) = c.requires in (
      s,
      given_there s c.args.store.now c.loop-more.store c.args.relation.now c.args.questions.now c.args.frame.now c.loop-more.invariant.same given,
      asked_there s c.args.store.now c.loop-more.store c.args.questions.now c.args.asked.now c.loop-more.invariant.same asked,
      c.loop-more.invariant.kept s given asked kept,
    )

pub loop-more-preserved : goal.loop-more-preserved
loop-more-preserved c = record {
  same = c.one_round.ensures.same ∙ c.loop-more.invariant.same;
  kept = λ s given asked kept.
      let r = c.in_ok-round.ensures.round s
      (given_there s c.args.store.now c.loop-more.store c.args.relation.now c.args.questions.now c.args.frame.now c.loop-more.invariant.same given)
      (asked_there s c.args.store.now c.loop-more.store c.args.questions.now c.args.asked.now c.loop-more.invariant.same asked)
      (c.loop-more.invariant.kept s given asked kept) in
      let g = r.grown in
      g.kept;
  below = λ s given asked kept below.
      let r = c.in_ok-round.ensures.round s
      (given_there s c.args.store.now c.loop-more.store c.args.relation.now c.args.questions.now c.args.frame.now c.loop-more.invariant.same given)
      (asked_there s c.args.store.now c.loop-more.store c.args.questions.now c.args.asked.now c.loop-more.invariant.same asked)
      (c.loop-more.invariant.kept s given asked kept) in
      let g = r.grown in
      let before = c.loop-more.invariant.below s given asked kept below in
      g.below before before;
  settled = λ s given asked kept e.
      let old = c.loop-more.invariant.kept s given asked kept in
      let r = c.in_ok-round.ensures.round s
      (given_there s c.args.store.now c.loop-more.store c.args.relation.now c.args.questions.now c.args.frame.now c.loop-more.invariant.same given)
      (asked_there s c.args.store.now c.loop-more.store c.args.questions.now c.args.asked.now c.loop-more.invariant.same asked) old in
      settled_of s c.args.frame.now c.loop-more.claim c.one_round.new.claim c.in_ok-round.round old r e;
}

pub loop-more-smaller : goal.loop-more-smaller
loop-more-smaller c =
    let (s, given, asked, kept, below) = c.requires in
    let relation = given.relation in
    let p = relation.parts in
    let r = c.in_ok-round.ensures.round s
    (given_there s c.args.store.now c.loop-more.store c.args.relation.now c.args.questions.now c.args.frame.now c.loop-more.invariant.same given)
    (asked_there s c.args.store.now c.loop-more.store c.args.questions.now c.args.asked.now c.loop-more.invariant.same asked)
    (c.loop-more.invariant.kept s given asked kept) in
    round_smaller s c.args.frame.now (length c.args.relation.now.parts.next) c.loop-more.more c.loop-more.claim c.one_round.new.claim c.in_ok-round.round
    p.states c.loop-more-test.true r

pub returns-clause-least : goal.returns-clause-least
returns-clause-least c s given asked kept below =
    least_found s c.args.frame.now given.frame c.loop-more.claim c.loop-more.good (c.loop-more.invariant.kept s given asked kept)
    (c.loop-more.invariant.below s given asked kept below) (c.loop-more.invariant.settled s given asked kept c.loop-more-test.false)
