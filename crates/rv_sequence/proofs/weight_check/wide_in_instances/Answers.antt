use Rattle.std.proofs.Common.{◌≡◌, suc, ◌+◌, ◌∙◌, ap, arith}
use Rattle.rv_types.specs.WideConstants.{lesser}
use Rattle.rv_instances.specs.Expanded.{program_of}
use Rattle.rv_sequence.specs.WideNodes.{wide_in_node, wide_in_first}
use Rattle.rv_sequence.proofs.weight_check.wide_in_instances.Goals as goal

pub loop-instance-preserved : goal.loop-instance-preserved
loop-instance-preserved c =
    let x = c.args.expanded.now in
    let k = c.loop-instance.instance in
    c.lesser_of-first.ensures
    ∙ (λ i. lesser (c.loop-instance.invariant i) ((c.wide_in_instance.ensures ∙ (λ j. wide_in_node (c.weigher-w.ensures.tables j) (c.weigher-w.ensures.node j)))
    i))
    ∙ ap (wide_in_first (program_of x) x.instances.now c.args.values.now c.args.layout.now c.args.weights.now) (let e : suc k ≡ k + 1 = omega arith in e)
