use Rattle.std.proofs.Common.{◌≡◌, ◌∙◌, rules, [], ◌++◌, map, flat_map}
use Rattle.rv_tree.specs.Tree.{program_tree, node_tree}
use Rattle.rv_types.specs.{Earliest.first, Known.alias_use_in, Known.constant_use_in, Known.names_in}
use Rattle.rv_types.proofs.names.name_uses.Goals as goal

pub returns : goal.returns
returns c =
    let p = program_tree c.args.p.now in
    let s = c.args.spaces.now in
    let bodies : c.as_slice.result.now ≡ c.args.p.now.nodes = search rules in
    let nodes : c.in_ok-nodes.nodes ≡ first (flat_map (names_in s) p.nodes) =
    c.in_ok-nodes.ensures ∙ (λ i. first (flat_map (names_in s) (map node_tree (bodies i)))) in
    c.sooner_of.ensures.joined (flat_map (alias_use_in s.types) p.types ++ flat_map (constant_use_in s []) p.constants) (flat_map (names_in s) p.nodes)
    c.unknown_in_globals.ensures nodes
