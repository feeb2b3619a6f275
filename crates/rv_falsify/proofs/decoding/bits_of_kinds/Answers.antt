use Rattle.std.proofs.Common.{◌+◌, ◌∙◌, length, map, sym, arith}
use Rattle.rv_falsify.proofs.Counted.{before_more, before_within}
use Rattle.rv_falsify.proofs.decoding.bits_of_kinds.Goals as goal

pub overflow_add-bits : goal.overflow_add-bits
overflow_add-bits c =
    omega (
      arith,
      c.bits_of_kind.ensures,
      c.loop-kind.invariant,
      c.requires.end,
      before_within (map (λ ls. length ls) c.args.labels.now) c.args.kinds.now c.loop-kind.kind-index c.loop-kind-test.true,
    )

pub loop-kind-preserved : goal.loop-kind-preserved
loop-kind-preserved c =
    (λ i. c.loop-kind.invariant i + c.bits_of_kind.ensures i)
    ∙ sym (before_more (map (λ ls. length ls) c.args.labels.now) c.args.kinds.now c.loop-kind.kind-index c.loop-kind-test.true)
