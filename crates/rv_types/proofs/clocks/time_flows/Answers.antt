use Rattle.std.proofs.Common.{◌≡◌, ◌<◌, ◌^◌, ◌∙◌, ap, sym, subst, rules, length}
use Rattle.rv_tree.specs.Tree.{node_tree}
use Rattle.rv_types.specs.{Names.texts, Firsts.firsts, Known.flow_names}
use Rattle.rv_types.proofs.NodeFlows.{flow_space, space_few}
use Rattle.rv_types.proofs.clocks.time_flows.Goals as goal

pub time_node-requires : goal.time_node-requires
time_node-requires c =
    let n = node_tree c.args.node.now in
    let space : c.in_ok-flows.flows.space ≡ firsts (flow_names n) = search rules in
    record {
      names = ap texts space ∙ flow_space n c.requires.different;
      few = subst (λ xs. length xs < 2 ^ 32) (sym space) (space_few n c.requires.different c.requires.few);
    }
