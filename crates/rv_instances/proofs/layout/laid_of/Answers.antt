use Rattle.std.proofs.Common.{◌<◌, length, ap, arith}
use Rattle.rv_tree.specs.{Places.flows, Tree.NodeTree, Tree.node_tree}
use Rattle.rv_instances.specs.Expanded.{program_of, main_of}
use Rattle.rv_instances.proofs.{ExpandedLaws.node_few, LaidFlows.inputs_among}
use Rattle.rv_instances.proofs.layout.laid_of.Goals as goal

pub overflow_cast-inputs : goal.overflow_cast-inputs
overflow_cast-inputs c =
    let x = c.args.expanded.now in
    let within : c.loop-instance.instance < length x.instances.now = omega arith in
    let few = node_few (program_of x) (main_of x) x.instances.now c.requires.expanded c.loop-instance.instance within in
    let all = ap (λ (n : NodeTree). length (flows n)) c.node.ensures in
    omega (arith, few, all, inputs_among (node_tree c.node.result.now), c.len-inputs.ensures)

pub overflow_add-first : goal.overflow_add-first
overflow_add-first c =
    let x = c.args.expanded.now in
    let within : c.loop-instance.instance < length x.instances.now = omega arith in
    let few = node_few (program_of x) (main_of x) x.instances.now c.requires.expanded c.loop-instance.instance within in
    let all = ap (λ (n : NodeTree). length (flows n)) c.node.ensures in
    omega (arith, few, all, inputs_among (node_tree c.node.result.now), c.len-inputs.ensures, c.requires.expanded.few, c.loop-instance.invariant.few, within)
