use Rattle.std.proofs.Common.{◌++◌, map, refl, arith}
use Rattle.rv_tree.specs.Tree.{tree_of, equation_tree}
use Rattle.rv_flatten.specs.Literals.{literals, equation_literals}
use Rattle.rv_flatten.proofs.Gathered.{gathered_more, gathered_all}
use Rattle.rv_flatten.proofs.thresholds.add_equations.Goals as goal

pub each-preserved : goal.each-preserved
each-preserved c =
    let all = c.args.equations.now in
    gathered_more (λ x. literals (tree_of x.right)) (λ xs. equation_literals (map equation_tree xs)) (λ x xs. refl) all c.each.equation-index
    c.equation-item.result c.each.found c.add_literals.new.found
    (c.args.found.now ++ equation_literals (map equation_tree all)) (omega arith) c.equation-item.is c.in_ok-add_literals.ensures c.each.invariant

pub returns : goal.returns
returns c =
    let all = c.args.equations.now in
    gathered_all (λ xs. equation_literals (map equation_tree xs)) refl all c.each.equation-index c.each.found
    (c.args.found.now ++ equation_literals (map equation_tree all)) (omega arith) c.each.invariant
