use Rattle.std.proofs.Common.{map, ap, ◌∙◌}
use Rattle.rv_tree.specs.{declared.tree.Node.Node, Tree.tree_of, Tree.trees, Tree.node_tree}
use Rattle.rv_types.specs.ToldPaces.{told_pace_of_all}
use Rattle.rv_types.proofs.ToldPaces.{all_is}
use Rattle.rv_types.proofs.reading_clocks.NodeClocks.told_pace_of_arguments.Goals as goal

pub returns-clause-whole : goal.returns-clause-whole
returns-clause-whole c timed =
    let e = (trees (map tree_of c.args.arguments.now)) in
    c.told_by_all.ensures ∙ ap (λ (n : Node). told_pace_of_all (node_tree n) e) c.timing.ensures ∙ all_is (node_tree c.args.self.now.node.now) e timed
