use Rattle.std.proofs.Common.{◌++◌, map, refl, arith}
use Rattle.rv_tree.specs.Tree.{tree_of, trees}
use Rattle.rv_flatten.specs.Literals.{literals, literals_of_all}
use Rattle.rv_flatten.proofs.Gathered.{gathered_more, gathered_all}
use Rattle.rv_flatten.proofs.thresholds.+literals.Goals as goal

pub add_all_literals-each-preserved : goal.add_all_literals-each-preserved
add_all_literals-each-preserved t c =
    let all = c.args.es.now in
    gathered_more (λ e. literals (tree_of e)) (λ es. literals_of_all (trees (map tree_of es))) (λ x xs. refl) all c.each.e-index c.e-item.result c.each.found
    c.add_literals.new.found
    (c.args.found.now ++ literals_of_all (trees (map tree_of all))) (omega arith) c.e-item.is c.in_ok-add_literals.ensures c.each.invariant

pub add_all_literals-returns : goal.add_all_literals-returns
add_all_literals-returns t c =
    let all = c.args.es.now in
    gathered_all (λ es. literals_of_all (trees (map tree_of es))) refl all c.each.e-index c.each.found
    (c.args.found.now ++ literals_of_all (trees (map tree_of all))) (omega arith) c.each.invariant
