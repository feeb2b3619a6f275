use Rattle.std.proofs.Common.{◌≡◌, map, take}
use Rattle.rv_tree.specs.Tree.{node_tree}
use Rattle.rv_types.specs.{Tables.entry_in, TypeTables.signature_by}
use Rattle.rv_types.proofs.kinds.signatures.Given as goal

abbrev pub invariant-loop-n : goal.invariant-loop-n
invariant-loop-n l = l.found ≡ map (signature_by (entry_in l.names l.types)) (map node_tree (take l.n-index l.nodes))
