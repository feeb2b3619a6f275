-- How many offsets are less than one: the place of the first that is not, where they rise, in whatever order they were.
use Rattle.std.proofs.Common.{◌≡◌, ℕ, zero, suc, ◌+◌, ◌≤◌, true, false, cond, ltb, List, [], ◌∷◌, ◌++◌, map, length, refl, sym, ap, ◌∙◌, arith, length-append}
use Rattle.std.proofs.{lemmas.List.Sorted.sum_by-IsPermutation, lemmas.List.Recursion.is_sum_by, lemmas.List.length-map}
use Rattle.std.specs.{List.AllWithin, List.sum_by, List.Sorted.IsPermutation}
use Rattle.rv_tree.specs.Sites.{earlier, numbered_from, equation_offsets, assertion_offsets, node_offsets, site_at}
use Rattle.rv_tree.specs.{declared.tree.Decl.Decl, Tree.EquationTree, Tree.AssertionTree, Tree.NodeTree, Places.flows}

pub earlier-place : (at : ℕ) (xs : List ℕ) (i : ℕ) → i ≤ length xs → AllWithin (λ y. ltb y at ≡ true) xs 0 i
    → AllWithin (λ y. ltb y at ≡ false) xs i (length xs) → earlier at xs ≡ i
earlier-place at [] i le low high = omega arith
earlier-place at (x ∷ xs) zero le low high =
    ap (λ b. cond b 1 0 + earlier at xs) (high 0 0 (omega arith) (omega arith))
    ∙ ap (λ n. 0 + n) (earlier-place at xs zero (omega arith) (λ k d l h. absurd (omega arith)) (λ k d l h. high (suc k) d (omega arith) (omega arith)))
earlier-place at (x ∷ xs) (suc i) le low high =
    let more : earlier at xs ≡ i = earlier-place at xs i (omega arith) (λ k d l h. low (suc k) d (omega arith) (omega arith))
    (λ k d l h. high (suc k) d (omega arith) (omega arith)) in
    ap (λ b. cond b 1 0 + earlier at xs) (low 0 0 (omega arith) (omega arith))
    ∙ omega arith

earlier-sum : (at : ℕ) (xs : List ℕ) → earlier at xs ≡ sum_by (λ x. cond (ltb x at) 1 0) xs
earlier-sum at xs = is_sum_by (earlier at) (λ x. cond (ltb x at) 1 0) refl (λ x ys. refl) xs

pub same-numbers : (first : ℕ) (xs ys : List ℕ) → IsPermutation xs ys → numbered_from first ys ≡ numbered_from first xs
same-numbers first xs ys moved =
    let same : (at : ℕ) → earlier at ys ≡ earlier at xs = λ at. earlier-sum at ys ∙ sum_by-IsPermutation (λ x. cond (ltb x at) 1 0) xs ys moved
    ∙ sym (earlier-sum at xs) in
    λ i at. first + same at i

pub length-flows : (n : NodeTree) → length (flows n) ≡ length n.inputs + length n.outputs + length n.locals
length-flows n =
    let name : Decl → List ℕ = λ d. d.name.text in
    let all : length (flows n) ≡ length ((map name n.inputs ++ map name n.outputs) ++ map name n.locals) = refl in
    omega (
      arith,
      length-append (map name n.inputs ++ map name n.outputs) (map name n.locals),
      length-append (map name n.inputs) (map name n.outputs),
      length-map n.inputs name,
      length-map n.outputs name,
      length-map n.locals name,
    )

-- the numbers of a node's offsets, in whatever order they are
pub node-numbers : (n : NodeTree) (first : ℕ) (xs ys : List ℕ) → first ≡ length (flows n) → xs ≡ node_offsets n → IsPermutation xs ys
    → numbered_from first ys ≡ site_at n
node-numbers n first xs ys is all moved = same-numbers first xs ys moved ∙ ap (λ m. numbered_from m xs) is ∙ ap (numbered_from (length (flows n))) all

-- the offsets of a node, collected in two steps
pub node-collected : (n : NodeTree) (qs : List EquationTree) (assumed : List AssertionTree) (none some all : List ℕ) → qs ≡ n.equations → assumed ≡ n.assertions
    → none ≡ [] → some ≡ none ++ equation_offsets qs → all ≡ some ++ assertion_offsets assumed → all ≡ node_offsets n
node-collected n qs assumed none some all p q empty first second =
    second
    ∙ ap (λ l. l ++ assertion_offsets assumed) (first ∙ ap (λ l. l ++ equation_offsets qs) empty)
    ∙ ap (λ l. equation_offsets l ++ assertion_offsets assumed) p
    ∙ ap (λ l. equation_offsets n.equations ++ assertion_offsets l) q
