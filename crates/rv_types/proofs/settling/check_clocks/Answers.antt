use Rattle.std.proofs.Common.{◌≡◌, ◌≤◌, ◌<◌, ◌^◌, rules, arith, map, subst, sym, None, length}
use Rattle.rv_base.specs.Limits.{source_limit}
use Rattle.rv_tree.specs.{Tree.program_tree, Tree.node_tree, Places.flows}
use Rattle.rv_types.specs.{Earliest.first, Clocks.clock_faults, Timings.HaveFlows}
use Rattle.rv_types.proofs.{FirstLaws.first_none, NodeFlows.node_right, RightNames.flows_different}
use Rattle.rv_types.proofs.settling.check_clocks.Goals as goal

pub time_nodes-requires : goal.time_nodes-requires
time_nodes-requires c =
    let p = program_tree c.args.p.now in
    let kept : c.as_slice.result.now ≡ c.args.p.now.nodes = search rules in
    let all : HaveFlows p.nodes = λ n there. (
      flows_different p n (node_right p c.requires.names n there),
      (let few : length (flows n) ≤ source_limit = c.requires.bounded.node_flows n there in
          let small : length (flows n) < 2 ^ 32 = omega arith in small),
    ) in
    subst (λ ns. HaveFlows (map node_tree ns)) (sym kept) all

pub returns-in-None-clause-right : goal.returns-in-None-clause-right
returns-in-None-clause-right c =
    let none : first (clock_faults (program_tree c.args.p.now)) ≡ None = search rules in
    first_none (clock_faults (program_tree c.args.p.now)) none
