use Rattle.std.proofs.Common.{ap, ◌∙◌}
use Rattle.rv_tree.specs.Tree.{node_tree}
use Rattle.rv_types.specs.{Earliest.first, TypeTables.flow_kinds_by, NodeTypes.types_by}
use Rattle.rv_types.proofs.{ConstantMeanings.types_named, NodeScope.scope_is, NodeScope.types_are}
use Rattle.rv_types.proofs.types.node_types.Goals as goal

pub returns-clause-kinds : goal.returns-clause-kinds
returns-clause-kinds c p t = c.in_ok-kinds.ensures ∙ (λ i. flow_kinds_by (types_named p _ _ _ _ _ t i) (node_tree c.args.node.now))

pub returns-clause-fault : goal.returns-clause-fault
returns-clause-fault c p t s different =
    let n = node_tree c.args.node.now in
    let scope = scope_is p n _ _ _ _ _ _ _ _ _ _ t s different c.in_ok-space.ensures.space (c.as_slice.ensures ∙ c.in_ok-kinds.ensures) in
    c.type_fault-fault.ensures ∙ ap (λ x. first (types_by x n)) scope ∙ ap first (types_are p n)
