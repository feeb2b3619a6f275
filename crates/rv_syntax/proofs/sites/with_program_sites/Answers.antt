use Rattle.std.proofs.{Common.◌≤◌, Common.map, Common.subst, Common.arith, lemmas.List.Elements.All-tail}
use Rattle.std.specs.{List.All, Vec.Iter.into_iter_items}
use Rattle.rv_base.specs.Limits.{source_limit}
use Rattle.rv_tree.specs.{Tree.NodeTree, Tree.node_tree, Sites.with_sites, Sites.site_count}
use Rattle.rv_syntax.proofs.Joined.{turned-more}
use Rattle.rv_syntax.proofs.sites.with_program_sites.Goals as goal

abbrev Fits : NodeTree → Type 0
Fits n = site_count n ≤ source_limit

pub with_sites-requires : goal.with_sites-requires
with_sites-requires c =
    let next = c.in-Some.ensures.steps.0 in
    let fit = subst (λ l. All Fits (map node_tree l)) next c.each.invariant.fits in
    fit 0 (node_tree c.in-Some.node) (omega arith)

pub each-preserved : goal.each-preserved
each-preserved c =
    let next = c.in-Some.ensures.steps.0 in
    let rest = into_iter_items c.next.new.self in
    record {
      tree = turned-more node_tree with_sites c.each.made c.push.new.self c.in_ok-with_sites.field-0 c.in-Some.node (into_iter_items c.each.node-iterator) rest
          (map with_sites (map node_tree c.args.program.nodes))
          c.in_ok-push.ensures.ok c.in_ok-with_sites.ensures next c.each.invariant.tree;
      fits = All-tail Fits (node_tree c.in-Some.node) (map node_tree rest) (subst (λ l. All Fits (map node_tree l)) next c.each.invariant.fits);
    }
