use Rattle.std.proofs.Common.{◌≡◌, ◌≤◌, ◌++◌, map}
use Rattle.std.specs.{List.All, Vec.Iter.into_iter_items}
use Rattle.rv_base.specs.Limits.{source_limit}
use Rattle.rv_tree.specs.{Tree.node_tree, Sites.with_sites, Sites.site_count}
use Rattle.rv_syntax.proofs.sites.with_program_sites.Given as goal

abbrev pub invariant-each : goal.invariant-each
invariant-each l = record {
  tree : map node_tree l.made ++ map with_sites (map node_tree (into_iter_items l.node-iterator)) ≡ map with_sites (map node_tree l.fn.program.nodes);
  fits : All (λ n. site_count n ≤ source_limit) (map node_tree (into_iter_items l.node-iterator));
}
