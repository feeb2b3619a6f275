use Rattle.std.proofs.Common.{length, subst, sym, arith, List}
use Rattle.std.specs.List.{Contains}
use Rattle.rv_instances.specs.{declared.flows.Flow.Flow, Expanded.program_of, Expanded.main_of, Flowing.flow_count, Flowing.flow_places}
use Rattle.rv_sequence.specs.FlowGraphs.{IsFlowGraph}
use Rattle.rv_instances.proofs.FlowTable.{of_flows}
use Rattle.rv_sequence.proofs.{GiverNeeds.places_few, Numbered.numbered}
use Rattle.rv_sequence.proofs.sequencing.numbers_of.Goals as goal

pub evaluation-requires-clause-few : goal.evaluation-requires-clause-few
evaluation-requires-clause-few c =
    let x = c.args.expanded.now in
    let few = places_few (program_of x) (main_of x) x.instances.now c.requires.known.expanded in
    let size = c.in_ok-graph.ensures.graph.size in
    omega (arith, few, size)

pub evaluation-requires-clause-instances : goal.evaluation-requires-clause-instances
evaluation-requires-clause-instances c f w =
    let x = c.args.expanded.now in
    (of_flows (flow_count (program_of x) x.instances.now) (length x.instances.now) f (subst (λ (l : List Flow). Contains l f) c.requires.flows w)).0

pub returns-clause-numbered : goal.returns-clause-numbered
returns-clause-numbered c =
    let x = c.args.expanded.now in
    let p = program_of x in
    let main = main_of x in
    let graph = subst (λ (fs : List Flow). IsFlowGraph p main (flow_places x.instances.now fs) c.in_ok-graph.graph)
    (sym c.requires.flows) c.in_ok-graph.ensures.graph in
    numbered p main x.instances.now c.args.flows.now c.evaluation.result c.requires.flows c.evaluation.ensures.within
    (c.evaluation.ensures.sequence p main graph)
