use Rattle.std.proofs.Common.{◌≤◌, length, ap, sym, ◌∙◌, subst, arith}
use Rattle.rv_tree.specs.{Bounded.most, Places.flows, Tree.NodeTree, Tree.program_tree}
use Rattle.rv_types.specs.Instances.{name_at}
use Rattle.rv_instances.proofs.ExpandedLaws.{node_few}
use Rattle.rv_instances.proofs.expanded.Expanded.count.Goals as goal

pub count_flows-requires : goal.count_flows-requires
count_flows-requires c =
    let x = c.args.self.now in
    subst (λ (n : NodeTree). length (flows n) ≤ most) (sym c.node.ensures)
    (node_few (program_tree x.program.now) (name_at (program_tree x.program.now) x.main) x.instances.now c.requires.known.expanded c.args.instance
    c.requires.within)

pub returns-clause-count : goal.returns-clause-count
returns-clause-count c = c.count_flows.ensures ∙ ap (λ (n : NodeTree). length (flows n)) c.node.ensures

pub returns-clause-few : goal.returns-clause-few
returns-clause-few c =
    let x = c.args.self.now in
    let few = node_few (program_tree x.program.now) (name_at (program_tree x.program.now) x.main) x.instances.now c.requires.known.expanded c.args.instance
    c.requires.within in
    let is = c.count_flows.ensures ∙ ap (λ (n : NodeTree). length (flows n)) c.node.ensures in omega (arith, few, is)
