use Rattle.std.proofs.Common.{ap, ◌∙◌}
use Rattle.rv_tree.specs.{declared.tree.Node.Node, Tree.tree_of, Tree.node_tree}
use Rattle.rv_types.specs.ToldPaces.{told_pace}
use Rattle.rv_types.proofs.ToldPaces.{told_is}
use Rattle.rv_types.proofs.reading_clocks.NodeClocks.told_pace.Goals as goal

pub returns-clause-whole : goal.returns-clause-whole
returns-clause-whole c timed =
    let e = (tree_of c.args.e.now) in
    c.told_by.ensures ∙ ap (λ (n : Node). told_pace (node_tree n) e) c.timing.ensures ∙ told_is (node_tree c.args.self.now.node.now) e timed
