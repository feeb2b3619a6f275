-- The sites that are read by numbers of names are those of the memories.
use Rattle.std.proofs.Common.{◌≡◌, ℕ, ◌+◌, true, false, cond, ◌||◌, nat_lt, unwrap_or, List, [], ◌∷◌, length, refl, sym, ◌∙◌, ap, Option, arith}
use Rattle.std.proofs.lemmas.Bool.Decides.{nat_tests}
use Rattle.rv_tree.specs.Places.{Identifier, flows, is_same, is_among, index_of, memory_site}
use Rattle.rv_tree.specs.{Tree.Tree, Tree.Node, Tree.Named, Tree.NodeTree, Delays.Delay, Delays.delay_sites}
use Rattle.rv_meaning.specs.{declared.numbers.Numbers.Numbers, Numbers.AreNumbers, Remembered.site_by, Remembered.sites_by}

-- a name is among some where its number is one of theirs
among_by_number : (xs : List Identifier) (x : Identifier) → is_among xs x ≡ nat_lt (index_of xs x) (length xs)
among_by_number [] x = refl
among_by_number (y ∷ ys) x = let e = among_by_number ys x in
    elim (is_same y x) as (λ b. b || is_among ys x ≡ nat_lt (cond b 0 (index_of ys x + 1)) (length (y ∷ ys)))
    [ true ↦ grind (arith, nat_tests) | false ↦ grind (arith, nat_tests) ]

module _ (n : NodeTree) (m : Numbers) (are : AreNumbers (flows n) m) where
  -- the site of one memory
  site_is : (site : Option ℕ) (e : Tree) → site_by m site e ≡ memory_site n site e
  site_is site (Node at s (Named x)) =
      (λ i. cond (nat_lt (are.number x i) (are.count i)) (are.number x i) (unwrap_or site 0))
      ∙ ap (λ b. cond b (index_of (flows n) x) (unwrap_or site 0)) (sym (among_by_number (flows n) x))
  site_is site (Node at s _) = refl

  -- of some
  pub sites_are : (ds : List Delay) → sites_by m ds ≡ delay_sites n ds
  sites_are [] = refl
  sites_are (d ∷ ds) = λ i. site_is d.site d.operand i ∷ sites_are ds i
