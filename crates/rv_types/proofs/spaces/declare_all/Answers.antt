use Rattle.std.proofs.Common.{◌≡◌, rules, [], ◌++◌}
use Rattle.rv_tree.specs.Tree.{program_tree}
use Rattle.rv_types.specs.{Names.repeated, Names.node_names, Names.type_names, Names.repeated_values, Earliest.first}
use Rattle.rv_types.proofs.spaces.declare_all.Goals as goal

pub returns-clause-fault : goal.returns-clause-fault
returns-clause-fault c =
    let p = program_tree c.args.p.now in
    let nodes : c.in_ok-second_nodes.second_nodes ≡ first (repeated [] (node_names p)) = search rules in
    let types : c.in_ok-second_types.second_types ≡ first (repeated [] (type_names p)) = search rules in
    let values : c.in_ok-second_values.second_values ≡ first (repeated_values p) = search rules in
    c.sooner_of-2.ensures.joined (repeated [] (node_names p)) (repeated [] (type_names p) ++ repeated_values p) nodes
    (c.sooner_of.ensures.joined (repeated [] (type_names p)) (repeated_values p) types values)
