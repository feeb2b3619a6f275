use Rattle.std.proofs.Common.{◌≡◌, ◌<◌, List, length, take, reverse, get_or, sym, ap, ◌∙◌, subst, arith}
use Rattle.std.proofs.lemmas.List.{length-take-le, length-map}
use Rattle.rv_tree.specs.{declared.tree.ConstDecl.ConstDecl, Tree.constant_tree, Tree.program_tree, Tree.tree_of}
use Rattle.rv_types.specs.WideConstants.{lesser, first_wide, first_wide_constant}
use Rattle.rv_types.proofs.{Turned.one_mapped, WideParts.values_sized, WideParts.first_values}
use Rattle.rv_types.proofs.wide_constants.wide_constant.Goals as goal

pub slice_bounds-values_before-end : goal.slice_bounds-values_before-end
slice_bounds-values_before-end c =
    let p = program_tree c.args.p.now in
    let k = c.loop-number.number in
    let same = ap length c.as_slice-constants.ensures in
    let size = ap length c.requires.values ∙ values_sized p ∙ length-map c.args.p.now.constants constant_tree in
    let lt = c.loop-number-test.true in
    sym (length-take-le k c.args.values.now (omega (arith, same, size, lt)))

pub values_before-known-requires-clause-values : goal.values_before-known-requires-clause-values
values_before-known-requires-clause-values c =
    let p = program_tree c.args.p.now in
    let k = c.loop-number.number in
    let same = ap length c.as_slice-constants.ensures in
    let size = length-map c.args.p.now.constants constant_tree in
    let lt = c.loop-number-test.true in
    ap (take k) c.requires.values ∙ first_values p k (omega (arith, same, size, lt))

pub loop-number-preserved : goal.loop-number-preserved
loop-number-preserved c =
    let p = program_tree c.args.p.now in
    let k = c.loop-number.number in
    let before = reverse (take k p.constants) in
    let one = c.index-constants-number.result in
    let is = subst (λ (l : List ConstDecl). one ≡ get_or l k one) c.as_slice-constants.ensures c.index-constants-number.is in
    let lt = subst (λ (l : List ConstDecl). k < length l) c.as_slice-constants.ensures c.loop-number-test.true in
    c.lesser_of-first.ensures ∙ ap (λ o. lesser o c.count-body.result.first) c.loop-number.invariant
    ∙ ap (lesser (first_wide_constant p before)) (c.count-body.ensures.first ∙ ap (λ known. first_wide known (tree_of one.body)) c.values_before-known.ensures)
    ∙ ap (first_wide_constant p) (sym (one_mapped constant_tree c.args.p.now.constants k one lt is))
