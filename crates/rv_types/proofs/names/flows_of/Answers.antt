use Rattle.std.proofs.Common.{◌≡◌, rules, []}
use Rattle.rv_types.specs.{Names.decl_names, Names.repeated, Firsts.firsts_after, Firsts.firsts, Earliest.first, Earliest.sooner}
use Rattle.rv_types.proofs.FlowSpaces.{three_spaces, three_seconds}
use Rattle.rv_types.proofs.names.flows_of.Goals as goal

pub returns-clause-space : goal.returns-clause-space
returns-clause-space c =
    let n = c.args.node.now in
    let one : c.declare_flows.new.space ≡ firsts (decl_names n.inputs) = search rules in
    let two : c.declare_flows-2.new.space ≡ firsts_after c.declare_flows.new.space (decl_names n.outputs) = search rules in
    let three : c.declare_flows-3.new.space ≡ firsts_after c.declare_flows-2.new.space (decl_names n.locals) = search rules in
    three_spaces n.inputs n.outputs n.locals c.declare_flows.new.space c.declare_flows-2.new.space c.declare_flows-3.new.space one two three

pub returns-clause-fault : goal.returns-clause-fault
returns-clause-fault c =
    let n = c.args.node.now in
    let one : c.declare_flows.new.space ≡ firsts (decl_names n.inputs) = search rules in
    let two : c.declare_flows-2.new.space ≡ firsts_after c.declare_flows.new.space (decl_names n.outputs) = search rules in
    let o : c.in_ok-inputs.inputs ≡ first (repeated [] (decl_names n.inputs)) = search rules in
    let p : c.in_ok-outputs.outputs ≡ first (repeated c.declare_flows.new.space (decl_names n.outputs)) = search rules in
    let q : c.in_ok-locals.locals ≡ first (repeated c.declare_flows-2.new.space (decl_names n.locals)) = search rules in
    let both : c.sooner_of-fault.result ≡ sooner (sooner c.in_ok-inputs.inputs c.in_ok-outputs.outputs) c.in_ok-locals.locals = search rules in
    three_seconds n.inputs n.outputs n.locals c.declare_flows.new.space c.declare_flows-2.new.space _ _ _ _ one two o p q both
