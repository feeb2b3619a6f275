use Rattle.std.proofs.Common.{◌++◌, [], ◌∷◌, map, ap, ◌∙◌, refl, append_assoc, arith}
use Rattle.rv_tree.specs.{Tree.tree_of, Tree.assertion_tree, Sites.offsets, Sites.assertion_offsets}
use Rattle.rv_syntax.proofs.Joined.{collected-more, collected-all}
use Rattle.rv_syntax.proofs.sites.collect_assertions.Goals as goal

pub each-preserved : goal.each-preserved
each-preserved c =
    let all = c.args.assertions.now in
    let a = c.assertion-item.result in
    collected-more (λ a. a.at ∷ offsets (tree_of a.body)) (λ more. assertion_offsets (map assertion_tree more)) (λ x xs. refl) all c.each.assertion-index a
    c.each.offsets.items c.collect.new.offsets.items
    (c.args.offsets.now.items ++ assertion_offsets (map assertion_tree all)) (omega arith) c.assertion-item.is
    (c.in_ok-collect.ensures ∙ ap (λ l. l ++ offsets (tree_of a.body)) c.in_ok-push.ensures.items
    ∙ append_assoc c.each.offsets.items (a.at ∷ []) (offsets (tree_of a.body))) c.each.invariant

pub returns : goal.returns
returns c =
    let all = c.args.assertions.now in
    collected-all (λ more. assertion_offsets (map assertion_tree more)) refl all c.each.assertion-index c.each.offsets.items
    (c.args.offsets.now.items ++ assertion_offsets (map assertion_tree all)) (omega arith) c.each.invariant
