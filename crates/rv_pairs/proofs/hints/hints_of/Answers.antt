use Rattle.std.proofs.Common.{◌≡◌, length, arith}
use Rattle.rv_pairs.proofs.Pairing.{hints_all}
use Rattle.rv_pairs.proofs.hints.hints_of.Goals as goal

pub loop-place-preserved : goal.loop-place-preserved
loop-place-preserved c = record {
  hints = c.in_ok-all-2.ensures.hints;
  shown = c.in_ok-all-2.ensures.shown c.loop-place.invariant.shown;
}

pub returns-clause-shown : goal.returns-clause-shown
returns-clause-shown c =
    let e : c.loop-place.place ≡ length c.args.labels.now = omega (arith, c.loop-place-test.false, c.loop-place.auto, c.len-place-end.ensures) in
    hints_all c.args.store.now.nodes c.args.labels.now c.loop-place.place c.args.numbers.now c.loop-place.all e c.loop-place.invariant.shown
