use Rattle.std.proofs.Common.{◌≡◌, map, drop, length, sym, ◌∙◌, ap, arith, None as Nothing}
use Rattle.std.proofs.lemmas.List.{length-map}
use Rattle.rv_tree.specs.Tree.{NodeTree, node_tree}
use Rattle.rv_meaning.specs.{Leading.node_texts, Numbers.entered}
use Rattle.rv_meaning.proofs.Entering.{are_numbers}
use Rattle.rv_meaning.proofs.numbers.node_numbers.Goals as goal

pub returns : goal.returns
returns c =
    let nodes = c.args.nodes.now in
    let none : c.loop-left.left ≡ 0 = omega arith in
    are_numbers (node_texts (map node_tree nodes)) (record { numbers = c.loop-left.numbers; count = length nodes })
    (sym (length-map (map node_tree nodes) (λ (n : NodeTree). n.name.text) ∙ length-map nodes node_tree))
    (λ x. c.loop-left.invariant.entered x ∙ ap (λ k. entered k (node_texts (map node_tree (drop k nodes))) Nothing x) none)
