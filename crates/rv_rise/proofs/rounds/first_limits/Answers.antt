use Rattle.std.proofs.Common.{◌≡◌, arith, ◌∙◌}
use Rattle.rv_rise.proofs.Rounding.{first_are}
use Rattle.rv_rise.proofs.rounds.first_limits.Goals as goal

pub returns : goal.returns
returns c =
    let e : c.loop-place.place ≡ c.args.many = omega (arith, c.loop-place-test.false, c.loop-place.auto) in
    first_are c.args.thresholds.now c.args.many c.loop-place.limits c.least_above-least.result c.requires c.least_above-least.ensures
    (c.loop-place.invariant.size ∙ e) (λ k l. c.loop-place.invariant.each k (omega (arith, l, e)))
