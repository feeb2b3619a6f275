use Rattle.std.proofs.Common.{◌++◌, ◌∷◌, [], List, map, refl, sym, ◌∙◌, ap, subst}
use Rattle.std.specs.List.{Contains}
use Rattle.rv_tree.specs.{declared.tree.Assertion.Assertion, Tree.assertion_tree, Tree.AssertionTree}
use Rattle.rv_flatten.specs.{Building.numbers_of, Building.program_given, Readings.assertion_of}
use Rattle.rv_flat.specs.RawTree.{raw_tree}
use Rattle.rv_flatten.proofs.{AssertedParts.assertions_at, AssertedParts.made_of_trees, Gathered.gathered_more, Gathered.gathered_all}
use Rattle.rv_types.proofs.Members.{in_map}
use Rattle.rv_flatten.proofs.assertions.push_assertions.Goals as goal

pub loop-assertion-preserved : goal.loop-assertion-preserved
loop-assertion-preserved c i is at =
    let g = c.args.given.now in let k = c.loop-assertion.assertion-index in let items = c.as_slice-assertion-items.result.now in
    let item = c.assertion-item.result in
    let f = λ (a : Assertion). assertion_of (program_given g) (numbers_of g c.args.found.now) i (assertion_tree a) in
    let same = assertions_at g.expanded.now c.requires.given.known c.args.instance i c.node-node.result.now items is at c.as_slice-assertion-items.ensures
    c.node-node.ensures in
    let there : Contains i.node.assertions (assertion_tree item) = subst (λ (l : List AssertionTree). Contains l (assertion_tree item)) same
    (in_map assertion_tree items item (k, c.loop-assertion-test.true, sym c.assertion-item.is)) in
    gathered_more (λ a. f a ∷ []) (map f) (λ a l. refl) items k item (map raw_tree c.loop-assertion.made) (map raw_tree c.push_assertion.new.made)
    (map raw_tree c.args.made.now ++ map f items) c.loop-assertion-test.true c.assertion-item.is (c.in_ok-push_assertion.ensures i is at there)
    (c.loop-assertion.invariant i is at)

pub returns : goal.returns
returns c i is at =
    let g = c.args.given.now in let items = c.as_slice-assertion-items.result.now in
    let own = assertion_of (program_given g) (numbers_of g c.args.found.now) i in
    let f = λ (a : Assertion). own (assertion_tree a) in
    let same = assertions_at g.expanded.now c.requires.given.known c.args.instance i c.node-node.result.now items is at c.as_slice-assertion-items.ensures
    c.node-node.ensures in
    gathered_all (map f) refl items c.loop-assertion.assertion-index (map raw_tree c.loop-assertion.made) (map raw_tree c.args.made.now ++ map f items)
    c.loop-assertion-test.false (c.loop-assertion.invariant i is at) ∙ ap (λ l. map raw_tree c.args.made.now ++ l) (made_of_trees own items ∙ ap (map own) same)
