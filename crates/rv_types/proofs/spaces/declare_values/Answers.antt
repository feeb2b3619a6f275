use Rattle.std.proofs.Common.{◌≡◌, rules, [], ◌++◌, flat_map}
use Rattle.rv_tree.specs.Tree.{program_tree}
use Rattle.rv_types.specs.{Names.repeated, Names.repeated_after, Names.constant_names, Names.label_names, Earliest.first}
use Rattle.rv_types.proofs.spaces.declare_values.Goals as goal

pub returns-clause-fault : goal.returns-clause-fault
returns-clause-fault c =
    let p = program_tree c.args.p.now in
    let constants : c.in_ok-second_constants.second_constants ≡ first (repeated [] (constant_names p)) = search rules in
    let labels : c.in_ok-second_labels.second_labels ≡ first (repeated [] (label_names p)) = search rules in
    let cs = repeated [] (constant_names p) in
    let ls = repeated [] (label_names p) in
    let us = flat_map (repeated_after (label_names p)) (constant_names p) in
    let bs = flat_map (repeated_after (constant_names p)) (label_names p) in
    c.sooner_of.ensures.joined (cs ++ ls) (us ++ bs) (c.sooner_of-own.ensures.joined cs ls constants labels) c.fault_between.ensures
