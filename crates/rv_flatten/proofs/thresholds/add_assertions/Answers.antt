use Rattle.std.proofs.Common.{◌++◌, map, refl, arith}
use Rattle.rv_tree.specs.Tree.{tree_of, assertion_tree}
use Rattle.rv_flatten.specs.Literals.{literals, assertion_literals}
use Rattle.rv_flatten.proofs.Gathered.{gathered_more, gathered_all}
use Rattle.rv_flatten.proofs.thresholds.add_assertions.Goals as goal

pub each-preserved : goal.each-preserved
each-preserved c =
    let all = c.args.assertions.now in
    gathered_more (λ x. literals (tree_of x.body)) (λ xs. assertion_literals (map assertion_tree xs)) (λ x xs. refl) all c.each.assertion-index
    c.assertion-item.result c.each.found c.add_literals.new.found
    (c.args.found.now ++ assertion_literals (map assertion_tree all)) (omega arith) c.assertion-item.is c.in_ok-add_literals.ensures c.each.invariant

pub returns : goal.returns
returns c =
    let all = c.args.assertions.now in
    gathered_all (λ xs. assertion_literals (map assertion_tree xs)) refl all c.each.assertion-index c.each.found
    (c.args.found.now ++ assertion_literals (map assertion_tree all)) (omega arith) c.each.invariant
