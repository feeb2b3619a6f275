use Rattle.std.proofs.Common.{◌≡◌, arith, ◌∙◌}
use Rattle.rv_boxes.proofs.Rounding.{first_are}
use Rattle.rv_boxes.proofs.claim.first_limits.Goals as goal

pub returns : goal.returns
returns c =
    let e : c.loop-memory.memory ≡ c.args.memories = omega (arith, c.loop-memory-test.false, c.loop-memory.auto) in
    first_are c.args.thresholds.now c.args.memories c.loop-memory.limits c.least_above-least.result c.requires c.least_above-least.ensures
    (c.loop-memory.invariant.size ∙ e) (λ k l. c.loop-memory.invariant.each k (omega (arith, l, e)))
