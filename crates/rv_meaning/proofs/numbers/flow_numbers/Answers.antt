use Rattle.std.proofs.Common.{◌≡◌, ℕ, ◌+◌, List, ◌++◌, length, sym, ◌∙◌, ap, arith, length-append, None as Nothing}
use Rattle.std.proofs.lemmas.List.{length-map}
use Rattle.std.specs.{HashMap.get, Map.lookup}
use Rattle.rv_tree.specs.{declared.tree.Decl.Decl, Places.Identifier, Places.is_same, Places.names, Places.flows, Tree.node_tree}
use Rattle.rv_meaning.specs.Numbers.{entered}
use Rattle.rv_meaning.proofs.Entering.{entered_both, are_numbers}
use Rattle.rv_meaning.proofs.numbers.flow_numbers.Goals as goal

-- three lists of names that are entered one after the other, the last first
three : (is os ls : List Identifier) (j k : ℕ) (x : Identifier) → j ≡ length is → k ≡ length is + length os
    → entered 0 is (entered j os (entered k ls Nothing x) x) x ≡ entered 0 (is ++ os ++ ls) Nothing x
three is os ls j k x first second =
    let begin : j ≡ 0 + length is = omega (arith, first) in
    let next : k ≡ 0 + length (is ++ os) = omega (arith, second, length-append is os) in
    ap (λ j. entered 0 is (entered j os (entered k ls Nothing x) x) x) begin
    ∙ entered_both 0 is os (entered k ls Nothing x) x
    ∙ ap (λ k. entered 0 (is ++ os) (entered k ls Nothing x) x) next
    ∙ entered_both 0 (is ++ os) ls Nothing x

many : (ds : List Decl) → length (names ds) ≡ length ds
many ds = length-map ds (λ d. d.name.text)

pub returns : goal.returns
returns c =
    let n = c.args.node.now in
    let m = c.enter-3.new.numbers in
    are_numbers (flows (node_tree n)) (record { numbers = m; count = c.len-outputs.result + c.len.result + c.len-2.result })
    (let all : length (flows (node_tree n)) ≡ length n.inputs + length n.outputs + length n.locals = simp (length-append, length-map) in
    let i = c.len-outputs.ensures in
    let o = c.len.ensures in
    let l = c.len-2.ensures in
    omega (arith, all))
    (λ x.
    c.in_ok-enter-3.ensures x
    ∙ ap (λ ds. entered 0 (names ds) (get is_same c.enter-2.new.numbers x) x) c.as_slice-3.ensures
    ∙ ap (λ o. entered 0 (names n.inputs) o x)
    (c.in_ok-enter-2.ensures x
    ∙ ap (λ ds. entered c.len-outputs.result (names ds) (get is_same c.enter.new.numbers x) x) c.as_slice-2.ensures
    ∙ ap (λ o. entered c.len-outputs.result (names n.outputs) o x)
    (c.in_ok-enter.ensures x
    ∙ (λ i. entered (c.len-outputs.result + c.len.result) (names (c.as_slice.ensures i)) (lookup (is_same x) (c.new-numbers.ensures.empty i)) x)))
    ∙ three (names n.inputs) (names n.outputs) (names n.locals) c.len-outputs.result (c.len-outputs.result + c.len.result) x
    (c.len-outputs.ensures ∙ sym (many n.inputs))
    (let i = c.len-outputs.ensures in
    let o = c.len.ensures in omega (arith, many n.inputs, many n.outputs)))
