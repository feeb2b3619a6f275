use Rattle.std.proofs.Common.{List, ap, ◌∙◌}
use Rattle.rv_tree.specs.Tree.{node_tree}
use Rattle.rv_types.specs.{declared.typed.Kind.Kind, Names.texts, Tables.entry_in, TypeTables.flow_kinds_by}
use Rattle.rv_types.proofs.{NodeFlows.flow_space, NodeScope.scope_is}
use Rattle.rv_types.proofs.reading.node_tables.Goals as goal

pub returns-clause-scope : goal.returns-clause-scope
returns-clause-scope c p t different =
    let g = c.args.tables.now in
    let n = node_tree c.args.node.now in
    scope_is p n _ _ _ _ _ _ _ _ _ _ t.globals t.nodes different c.in_ok-flows.ensures.space
    (c.in_ok-kinds.ensures ∙ ap (λ (ks : List Kind). flow_kinds_by (entry_in g.spaces.types ks) n) c.as_slice.ensures)

pub returns-clause-flows : goal.returns-clause-flows
returns-clause-flows c different =
    ap texts c.in_ok-flows.ensures.space ∙ flow_space (node_tree c.args.node.now) different
