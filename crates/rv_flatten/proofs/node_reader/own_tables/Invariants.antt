use Rattle.std.proofs.Common.{◌≡◌, map, take}
use Rattle.rv_tree.specs.Tree.{program_tree, node_tree}
use Rattle.rv_types.specs.{declared.reading_clocks.NodeClocks.NodeClocks, Scopes.node_scope}
use Rattle.rv_flatten.specs.NodeReaders.{scope_by}
use Rattle.rv_flatten.proofs.node_reader.own_tables.Given as goal

abbrev pub invariant-loop-clocks : goal.invariant-loop-clocks
invariant-loop-clocks l =
    map (scope_by l.tables) l.owns ≡ map (λ (c : NodeClocks). node_scope (program_tree l.expanded.program.now) (node_tree c.node.now))
    (take l.clocks-index l.expanded.clocks)
