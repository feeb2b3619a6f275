-- Places of names in lists.
use Rattle.rv_tree.specs.{Places.Identifier, Places.flows as flows_of, Places.index_of, Places.is_among, Places.is_same, Tree.NodeTree}
use Rattle.rv_types.specs.Lists.{Variable, with_copies}
use Rattle.std.proofs.Common.{List, [], ap, arith, cond, false, length-append, length, refl, suc, true, ℕ, ◌*◌, ◌+◌, ◌<◌, ◌∷◌, ◌≡◌, ◌≤◌, ◌∙◌}
use Rattle.std.proofs.{lemmas.List.length-map, lemmas.Bool.or_parts}

pub length_copies : (xs : List Variable) → length (with_copies xs) ≡ 2 * length xs
length_copies [] = refl
length_copies (x ∷ xs) = let h = length_copies xs in omega (arith, h)

-- where the outputs of a node stand among its flows
pub output_within : (n : NodeTree) (j : ℕ) → j < length n.outputs → length n.inputs + j < length (flows_of n)
output_within n j lt =
    let many : length (flows_of n) ≡ length n.inputs + length n.outputs + length n.locals = simp (length-append, length-map) in
    omega (arith, lt, many)

pub index_low : (xs : List Identifier) (x : Identifier) → index_of xs x ≤ length xs
index_low [] x = omega arith
index_low (y ∷ ys) x = elim (is_same y x) as (λ b. cond b 0 (index_of ys x + 1) ≤ length (y ∷ ys))
    [ true ↦ omega arith | false ↦ (let h = index_low ys x in omega (arith, h)) ]

-- a name that is not among some has the number of all
pub index_past : (xs : List Identifier) (x : Identifier) → is_among xs x ≡ false → index_of xs x ≡ length xs
index_past [] x e = refl
index_past (y ∷ ys) x e =
    let parts = or_parts _ _ e in
    let h = index_past ys x parts.1 in
    ap (λ b. cond b 0 (index_of ys x + 1)) parts.0 ∙ (let next : index_of ys x + 1 ≡ suc (length ys) = omega (arith, h) in next)
