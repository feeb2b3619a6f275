use Rattle.std.proofs.Common.{ap, ◌∙◌, arith, map}
use Rattle.rv_tree.specs.{Tree.tree_of, Tree.trees, Sites.numbered_from, Sites.sited_trees}
use Rattle.rv_syntax.proofs.Joined.{one-more, all-made}
use Rattle.rv_syntax.proofs.sites.+sited.Goals as goal

pub sited_all-each-preserved : goal.sited_all-each-preserved
sited_all-each-preserved t c =
    let all = c.args.all.now in
    let sites = c.args.sites.now in
    let f = numbered_from sites.first sites.offsets.items in
    one-more f all c.each.expr-index c.expr-item.result c.each.made c.push.new.self c.into_inner.result (sited_trees f (trees (map tree_of all)))
    (omega arith) c.expr-item.is
    (ap tree_of c.into_inner.ensures ∙ c.in_ok-sited.ensures) c.in_ok-push.ensures.ok c.each.invariant

pub sited_all-returns : goal.sited_all-returns
sited_all-returns t c =
    let all = c.args.all.now in
    let sites = c.args.sites.now in
    let f = numbered_from sites.first sites.offsets.items in
    all-made f all c.each.made c.each.expr-index (sited_trees f (trees (map tree_of all))) (omega arith) c.each.invariant
