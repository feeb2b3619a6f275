use Rattle.std.proofs.Common.{◌≡◌, rules, flat_map}
use Rattle.rv_tree.specs.Tree.{node_tree}
use Rattle.rv_types.specs.{Names.decl_names, Names.lefts, Names.undefined_unless, Firsts.firsts, Earliest.first}
use Rattle.rv_types.proofs.FlowSpaces.{two_parts}
use Rattle.rv_types.proofs.names.undefined_flow.Goals as goal

pub returns : goal.returns
returns c =
    let n = c.args.node.now in
    let one : c.declare_lefts.new.space ≡ firsts (lefts (node_tree n)) = search rules in
    let o : c.undefined_flows-outputs.result ≡ first (flat_map (undefined_unless (firsts (lefts (node_tree n)))) (decl_names n.outputs)) = search rules in
    let p : c.undefined_flows-locals.result ≡ first (flat_map (undefined_unless (firsts (lefts (node_tree n)))) (decl_names n.locals)) = search rules in
    two_parts (undefined_unless (firsts (lefts (node_tree n)))) n.outputs n.locals _ _ _ o p c.sooner_of.ensures.value
