use Rattle.std.proofs.{Common.◌+◌, Common.length, lemmas.Map.Iter.rest_more, lemmas.Map.Iter.rest_all}
use Rattle.std.specs.{BTreeMap.values, Map.Iter.deref}
use Rattle.rv_seek.proofs.LeastLemmas.{walked-more, walked-all, least-all}
use Rattle.rv_seek.proofs.least.least_within.Goals as goal

pub loop-closest-preserved : goal.loop-closest-preserved
loop-closest-preserved c = record {
  shown = c.in_ok-least.ensures.shown;
  walked = walked-more c.args.premises.now c.args.wanted.now (length c.args.premises.now + 2) c.pivot_of-pivot.result c.loop-closest.least _
      (values c.args.sides.now)
      c.loop-closest.closest-iterator c.next.new.self c.in-Some.closest.now c.loop-closest.invariant.walked
      (rest_more deref c.loop-closest.closest-iterator c.next.new.self c.next.result c.in-Some.closest c.in-Some.is c.next.ensures.steps)
      c.in_ok-least.ensures.no_more c.in_ok-least.ensures.here;
}

pub returns : goal.returns
returns c =
    least-all c.args.premises.now c.args.wanted.now c.args.width (length c.args.premises.now + 2) c.args.sides.now c.pivot_of-pivot.result c.loop-closest.least
    c.requires.prepared.table c.pivot_of-pivot.ensures
    (walked-all c.args.premises.now c.args.wanted.now (length c.args.premises.now + 2) c.pivot_of-pivot.result c.loop-closest.least (values c.args.sides.now)
    c.loop-closest.closest-iterator c.loop-closest.invariant.walked
    (rest_all deref c.loop-closest.closest-iterator c.next.new.self c.next.result c.in-None.is c.next.ensures.steps))
    c.loop-closest.invariant.shown
