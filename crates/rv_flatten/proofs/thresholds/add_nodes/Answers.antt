use Rattle.std.proofs.Common.{◌++◌, map, flat_map, refl, arith}
use Rattle.rv_tree.specs.Tree.{node_tree}
use Rattle.rv_flatten.specs.Literals.{node_literals}
use Rattle.rv_flatten.proofs.Gathered.{gathered_more, gathered_all}
use Rattle.rv_flatten.proofs.thresholds.add_nodes.Goals as goal

pub each-preserved : goal.each-preserved
each-preserved c =
    let all = c.args.nodes.now in
    gathered_more (λ x. node_literals (node_tree x)) (λ xs. flat_map node_literals (map node_tree xs)) (λ x xs. refl) all c.each.node-index c.node-item.result
    c.each.found c.add_node.new.found
    (c.args.found.now ++ flat_map node_literals (map node_tree all)) (omega arith) c.node-item.is c.in_ok-add_node.ensures c.each.invariant

pub returns : goal.returns
returns c =
    let all = c.args.nodes.now in
    gathered_all (λ xs. flat_map node_literals (map node_tree xs)) refl all c.each.node-index c.each.found
    (c.args.found.now ++ flat_map node_literals (map node_tree all)) (omega arith) c.each.invariant
