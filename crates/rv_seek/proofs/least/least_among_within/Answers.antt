use Rattle.std.proofs.Common.{◌≡◌, ℕ, ◌+◌, length, subst, arith}
use Rattle.rv_seek.specs.Least.{IsLeastAmong}
use Rattle.rv_seek.proofs.LeastLemmas.{among-more, among-next}
use Rattle.rv_seek.proofs.least.least_among_within.Goals as goal

pub loop-place-preserved : goal.loop-place-preserved
loop-place-preserved c = record {
  shown = c.in_ok-least.ensures.shown;
  among = among-next c.args.premises.now c.args.wanted.now c.loop-place.place c.loop-place.least c.in_ok-least.least c.loop-place.invariant.among
      c.in_ok-least.ensures.part c.in_ok-least.ensures.shown;
  least = among-more c.args.premises.now c.args.wanted.now (length c.args.premises.now + 2) c.loop-place.place c.loop-place.least c.in_ok-least.least
      c.in_ok-least.ensures.no_more c.loop-place.invariant.least c.in_ok-least.ensures.here;
}

pub returns : goal.returns
returns c =
    let e : c.loop-place.place ≡ c.args.first = omega (arith, c.loop-place-test.false, c.loop-place.auto) in
    subst (λ (n : ℕ). IsLeastAmong c.args.premises.now c.args.wanted.now (length c.args.premises.now + 2) n c.loop-place.least) e (record {
      shown = c.loop-place.invariant.shown;
      among = c.loop-place.invariant.among;
      least = c.loop-place.invariant.least;
    })
