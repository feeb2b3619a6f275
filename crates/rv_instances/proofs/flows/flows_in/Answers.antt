use Rattle.std.proofs.Common.{length, List, subst}
use Rattle.std.specs.List.{Contains}
use Rattle.rv_instances.specs.{declared.flows.Flow.Flow, Expanded.program_of, Expanded.main_of, Flowing.flow_count}
use Rattle.rv_instances.proofs.{ExpandedLaws.of_nodes, FlowTable.of_flows}
use Rattle.rv_instances.proofs.flows.flows_in.Goals as goal

pub flows_of-requires-clause-nodes : goal.flows_of-requires-clause-nodes
flows_of-requires-clause-nodes c = let x = c.args.expanded.now in of_nodes (program_of x) (main_of x) x.instances.now c.requires.expanded

pub returns-clause-instances : goal.returns-clause-instances
returns-clause-instances c f w =
    let x = c.args.expanded.now in
    (of_flows (flow_count (program_of x) x.instances.now) (length x.instances.now) f (subst (λ (l : List Flow). Contains l f) c.in_ok-found.ensures w)).0
