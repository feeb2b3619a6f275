use Rattle.std.proofs.Common.{◌++◌, map, refl, arith}
use Rattle.rv_tree.specs.{Tree.tree_of, Tree.trees, Sites.offsets, Sites.trees_offsets}
use Rattle.rv_syntax.proofs.Joined.{collected-more, collected-all}
use Rattle.rv_syntax.proofs.sites.+collect.Goals as goal

pub collect_all-each-preserved : goal.collect_all-each-preserved
collect_all-each-preserved t c =
    let all = c.args.all.now in
    collected-more (λ e. offsets (tree_of e)) (λ es. trees_offsets (trees (map tree_of es))) (λ x xs. refl) all c.each.expr-index c.expr-item.result
    c.each.offsets.items c.collect.new.offsets.items
    (c.args.offsets.now.items ++ trees_offsets (trees (map tree_of all))) (omega arith) c.expr-item.is c.in_ok-collect.ensures c.each.invariant

pub collect_all-returns : goal.collect_all-returns
collect_all-returns t c =
    let all = c.args.all.now in
    collected-all (λ es. trees_offsets (trees (map tree_of es))) refl all c.each.expr-index c.each.offsets.items
    (c.args.offsets.now.items ++ trees_offsets (trees (map tree_of all))) (omega arith) c.each.invariant
