use Rattle.std.proofs.Common.{◌≡◌, ◌∙◌, rules, IfOk, subst, map, flat_map}
use Rattle.rv_tree.specs.Tree.{node_tree, equation_tree}
use Rattle.rv_types.specs.{Names.decl_names, Names.repeated, Names.lefts, Firsts.firsts, Earliest.first}
use Rattle.rv_types.proofs.FirstNames.{repeated_alike, declared_firsts}
use Rattle.rv_types.proofs.names.second_left.Goals as goal

pub returns : goal.returns
returns c =
    let n = c.args.node.now in
    let one : c.declare_flows.new.space ≡ firsts (decl_names n.inputs) = search rules in
    let kept : c.as_slice-2.result.now ≡ n.equations = search rules in
    let before = (λ i. repeated (one i) (flat_map (λ q. q.lefts) (map equation_tree (kept i))))
    ∙ repeated_alike (firsts (decl_names n.inputs)) (decl_names n.inputs) (lefts (node_tree n)) (declared_firsts (decl_names n.inputs)) in
    subst (λ l. IfOk c.declare_lefts.result (λ fault. fault ≡ first l)) before c.declare_lefts.ensures.fault
