use Rattle.std.proofs.{Common.◌≡◌, Common.ℕ, Common.◌+◌, Common.List, Common.length, Common.sym, Common.◌∙◌, Common.ap, Common.arith, lemmas.List.length-map}
use Rattle.rv_tree.specs.{declared.tree.Decl.Decl, Places.Identifier, Places.names, Places.index_of}
use Rattle.rv_meaning.proofs.Searches.{index_one, index_two, index_three}
use Rattle.rv_types.proofs.NamePlaces.{index_low}
use Rattle.rv_meaning.proofs.kinds.flow_site.Goals as goal

-- the number of a name among declarations, which stand in a list that equals them
placed : (xs ds : List Decl) (x : Identifier) (k : ℕ) → xs ≡ ds → k ≡ index_of (names xs) x → k ≡ index_of (names ds) x
placed xs ds x k e is = is ∙ ap (λ l. index_of (names l) x) e

-- there are as many names as declarations
many : (ds : List Decl) → length (names ds) ≡ length ds
many ds = length-map ds (λ d. d.name.text)

pub returns-then-input-len : goal.returns-then-input-len
returns-then-input-len c =
    let n = c.args.node.now in
    let x = c.args.name.now in
    let is = placed c.as_slice.result.now n.inputs x c.index_among-input.result c.as_slice.ensures c.index_among-input.ensures in
    is ∙ sym (index_one (names n.inputs) (names n.outputs) (names n.locals) x (omega (arith, many n.inputs, is)))

pub overflow_add-result : goal.overflow_add-result
overflow_add-result c =
    let x = c.args.name.now in
    let i = c.as_slice.result.now in
    let o = c.as_slice-2.result.now in omega (arith, index_low (names i) x, index_low (names o) x, many i, many o)

pub returns-then-output-len : goal.returns-then-output-len
returns-then-output-len c =
    let n = c.args.node.now in
    let x = c.args.name.now in
    let i = placed c.as_slice.result.now n.inputs x c.index_among-input.result c.as_slice.ensures c.index_among-input.ensures in
    let o = placed c.as_slice-2.result.now n.outputs x c.index_among-output.result c.as_slice-2.ensures c.index_among-output.ensures in
    (λ j. i j + o j)
    ∙ sym (index_two (names n.inputs) (names n.outputs) (names n.locals) x (omega (arith, many n.inputs, i)) (omega (arith, many n.outputs, o)))

pub overflow_add-result-2 : goal.overflow_add-result-2
overflow_add-result-2 c =
    let x = c.args.name.now in
    let i = c.as_slice.result.now in
    let o = c.as_slice-2.result.now in omega (arith, index_low (names i) x, index_low (names o) x, many i, many o)

pub overflow_add-result-3 : goal.overflow_add-result-3
overflow_add-result-3 c =
    let x = c.args.name.now in
    let i = c.as_slice.result.now in
    let o = c.as_slice-2.result.now in
    let l = c.as_slice-3.result.now in
    omega (arith, index_low (names i) x, index_low (names o) x, index_low (names l) x, many i, many o, many l)

pub returns : goal.returns
returns c =
    let n = c.args.node.now in
    let x = c.args.name.now in
    let i = placed c.as_slice.result.now n.inputs x c.index_among-input.result c.as_slice.ensures c.index_among-input.ensures in
    let o = placed c.as_slice-2.result.now n.outputs x c.index_among-output.result c.as_slice-2.ensures c.index_among-output.ensures in
    let l = placed c.as_slice-3.result.now n.locals x c.index_among.result c.as_slice-3.ensures c.index_among.ensures in
    (λ j. i j + o j + l j)
    ∙ sym (index_three (names n.inputs) (names n.outputs) (names n.locals) x (omega (arith, many n.inputs, i)) (omega (arith, many n.outputs, o)))
