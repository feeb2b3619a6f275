use Rattle.std.proofs.Common.{◌≡◌, ◌∙◌, ap, rules, [], ◌++◌, flat_map}
use Rattle.rv_tree.specs.Tree.{program_tree}
use Rattle.rv_types.specs.{Earliest.first, Known.first_spaces, Known.second_declarations, Known.alias_use_in, Known.constant_use_in, Known.names_in}
use Rattle.rv_types.proofs.KnownLaws.{all_names}
use Rattle.rv_types.proofs.names.name_all.Goals as goal

pub returns-clause-fault : goal.returns-clause-fault
returns-clause-fault c =
    let p = program_tree c.args.p.now in
    let spaces : c.in_ok-declared.declared.spaces ≡ first_spaces p = search rules in
    let second : c.in_ok-declared.declared.fault ≡ first (second_declarations p) = search rules in
    let us = flat_map (alias_use_in (first_spaces p).types) p.types in
    let vs = flat_map (constant_use_in (first_spaces p) []) p.constants in
    let ws = flat_map (names_in (first_spaces p)) p.nodes in
    let used : c.in_ok-used.used ≡ first ((us ++ vs) ++ ws) = c.in_ok-used.ensures
    ∙ (λ i. first ((flat_map (alias_use_in (spaces i).types) p.types ++ flat_map (constant_use_in (spaces i) []) p.constants)
    ++ flat_map (names_in (spaces i)) p.nodes)) in
    c.sooner_of-declared.ensures.joined (second_declarations p) ((us ++ vs) ++ ws) second used ∙ ap first (all_names p [])
