use Rattle.std.proofs.Common.{◌++◌, map, refl, arith}
use Rattle.rv_tree.specs.Tree.{tree_of, constant_tree}
use Rattle.rv_flatten.specs.Literals.{literals, constant_literals}
use Rattle.rv_flatten.proofs.Gathered.{gathered_more, gathered_all}
use Rattle.rv_flatten.proofs.thresholds.add_constants.Goals as goal

pub each-preserved : goal.each-preserved
each-preserved c =
    let all = c.args.constants.now in
    gathered_more (λ x. literals (tree_of x.body)) (λ xs. constant_literals (map constant_tree xs)) (λ x xs. refl) all c.each.constant-index
    c.constant-item.result c.each.found c.add_literals.new.found
    (c.args.found.now ++ constant_literals (map constant_tree all)) (omega arith) c.constant-item.is c.in_ok-add_literals.ensures c.each.invariant

pub returns : goal.returns
returns c =
    let all = c.args.constants.now in
    gathered_all (λ xs. constant_literals (map constant_tree xs)) refl all c.each.constant-index c.each.found
    (c.args.found.now ++ constant_literals (map constant_tree all)) (omega arith) c.each.invariant
