use Rattle.std.proofs.Common.{◌++◌, map, refl, arith}
use Rattle.rv_tree.specs.{Tree.tree_of, Tree.equation_tree, Sites.offsets, Sites.equation_offsets}
use Rattle.rv_syntax.proofs.Joined.{collected-more, collected-all}
use Rattle.rv_syntax.proofs.sites.collect_equations.Goals as goal

pub each-preserved : goal.each-preserved
each-preserved c =
    let all = c.args.equations.now in
    collected-more (λ q. offsets (tree_of q.right)) (λ qs. equation_offsets (map equation_tree qs)) (λ x xs. refl) all c.each.equation-index
    c.equation-item.result c.each.offsets.items c.collect.new.offsets.items
    (c.args.offsets.now.items ++ equation_offsets (map equation_tree all)) (omega arith) c.equation-item.is c.in_ok-collect.ensures c.each.invariant

pub returns : goal.returns
returns c =
    let all = c.args.equations.now in
    collected-all (λ qs. equation_offsets (map equation_tree qs)) refl all c.each.equation-index c.each.offsets.items
    (c.args.offsets.now.items ++ equation_offsets (map equation_tree all)) (omega arith) c.each.invariant
