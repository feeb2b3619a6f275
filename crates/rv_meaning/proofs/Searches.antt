-- Where a name stands in two lists, one after the other.
use Rattle.std.proofs.Common.{◌≡◌, ◌+◌, ◌<◌, ◌≤◌, true, false, cond, List, [], ◌∷◌, ◌++◌, length, refl, sym, ◌∙◌, ap, arith, zero-add, length-append}
use Rattle.rv_tree.specs.Places.{Identifier, is_same, index_of}
use Rattle.rv_types.proofs.NamePlaces.{index_low}

-- what is found in the first is found there in both
pub index_early : (xs ys : List Identifier) (x : Identifier) → index_of xs x < length xs → index_of (xs ++ ys) x ≡ index_of xs x
index_early [] ys x lt = absurd (omega arith)
index_early (y ∷ xs) ys x lt = elim (is_same y x)
    as (λ b. cond b 0 (index_of xs x + 1) < length (y ∷ xs) → cond b 0 (index_of (xs ++ ys) x + 1) ≡ cond b 0 (index_of xs x + 1))
    [ true ↦ λ less. refl | false ↦ λ less. ap (λ k. k + 1) (index_early xs ys x (omega (arith, less))) ] lt

-- and what is not, in the second
pub index_late : (xs ys : List Identifier) (x : Identifier) → length xs ≤ index_of xs x → index_of (xs ++ ys) x ≡ length xs + index_of ys x
index_late [] ys x le = sym (zero-add (index_of ys x))
index_late (y ∷ xs) ys x le = elim (is_same y x)
    as (λ b. length (y ∷ xs) ≤ cond b 0 (index_of xs x + 1) → cond b 0 (index_of (xs ++ ys) x + 1) ≡ length (y ∷ xs) + index_of ys x)
    [ true ↦ λ more. absurd (omega (arith, more)) | false ↦ λ more. let h = index_late xs ys x (omega (arith, more)) in omega (arith, h) ] le

module _ (xs ys zs : List Identifier) (x : Identifier) where
  -- what is first in the first, second or third of three lists
  pub index_one : index_of xs x < length xs → index_of (xs ++ ys ++ zs) x ≡ index_of xs x
  index_one lt = let both = index_early xs ys x lt in index_early (xs ++ ys) zs x (omega (arith, both, length-append xs ys)) ∙ both

  pub index_two : length xs ≤ index_of xs x → index_of ys x < length ys → index_of (xs ++ ys ++ zs) x ≡ index_of xs x + index_of ys x
  index_two le lt =
      let both = index_late xs ys x le in
      let early = index_early (xs ++ ys) zs x (omega (arith, both, length-append xs ys)) in omega (arith, early, both, index_low xs x)

  pub index_three : length xs ≤ index_of xs x → length ys ≤ index_of ys x → index_of (xs ++ ys ++ zs) x ≡ index_of xs x + index_of ys x + index_of zs x
  index_three le less =
      let both = index_late xs ys x le in
      let late = index_late (xs ++ ys) zs x (omega (arith, both, length-append xs ys)) in
      omega (arith, late, both, index_low xs x, index_low ys x, length-append xs ys)
