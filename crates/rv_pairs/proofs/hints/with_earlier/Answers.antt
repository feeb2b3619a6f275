use Rattle.std.proofs.Common.{arith}
use Rattle.rv_seek.specs.Least.{bounded}
use Rattle.rv_pairs.specs.Hints.{IsHinted}
use Rattle.rv_pairs.proofs.Counting.{label_at}
use Rattle.rv_pairs.proofs.Placing.{listed_none, listed_more, listed_all}
use Rattle.rv_pairs.proofs.hints.with_earlier.Goals as goal

pub with_one-requires-clause-label : goal.with_one-requires-clause-label
with_one-requires-clause-label c =
    label_at c.args.store.now.nodes c.args.labels.now c.args.place c.args.label.now c.requires.label c.requires.labels

pub loop-turn-init : goal.loop-turn-init
loop-turn-init c = record {
  hints = c.requires.hints;
  exact = λ v z. listed_none c.args.store.now.nodes v c.args.labels.now c.args.place c.args.label.now (bounded c.args.numbers.now z) c.requires.place
      c.others-others.result.now (IsHinted c.args.store.now.nodes c.args.hints v z);
}

pub loop-turn-preserved : goal.loop-turn-preserved
loop-turn-preserved c = record {
  hints = c.in_ok-all.ensures.hints;
  exact = λ v z. listed_more c.args.store.now.nodes v c.args.labels.now c.args.place c.args.label.now
      (bounded c.args.numbers.now z) c.requires.place
      c.others-others.result.now (IsHinted c.args.store.now.nodes c.args.hints v z) (IsHinted c.args.store.now.nodes c.loop-turn.all v z)
      (IsHinted c.args.store.now.nodes c.in_ok-all.all v z) c.loop-turn.turn c.at-earlier.result.now c.at-earlier.ensures.value
      (c.loop-turn.invariant.exact v z) (c.in_ok-all.ensures.exact v z);
}

pub returns-clause-exact : goal.returns-clause-exact
returns-clause-exact c v z =
    listed_all c.args.store.now.nodes v c.args.labels.now c.args.place c.args.label.now (bounded c.args.numbers.now z) c.requires.place
    c.others-others.result.now (IsHinted c.args.store.now.nodes c.args.hints v z) (IsHinted c.args.store.now.nodes c.loop-turn.all v z)
    (λ i x at sum. c.others-others.ensures c.args.numbers.now i x c.args.label.now c.requires.key at c.requires.label sum) c.loop-turn.turn
    (omega (arith, c.loop-turn-test.false, c.loop-turn.auto, c.len-turn-end.ensures)) (c.loop-turn.invariant.exact v z)
