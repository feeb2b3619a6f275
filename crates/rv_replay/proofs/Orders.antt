-- Places stand in one order, so memories have one list, and there is one least place.
use Rattle.std.proofs.Common.{◌≡◌, ◌⊎◌, inl, inr, ◌<◌, List, [], ◌∷◌, refl, sym, subst}
use Rattle.std.proofs.lemmas.Bool.{cases_order}
use Rattle.std.specs.List.{Contains}
use Rattle.rv_base.specs.declared.value.Place.{Place}
use Rattle.rv_tree.specs.{Tree.ProgramTree, Places.Identifier, Places.Sites}
use Rattle.rv_types.specs.{Lists.MemoryAt, Lists.AreMemories, Lists.IsAny, Needs.IsBefore}
use Rattle.rv_flat.specs.Steps.{IsLeast}
use Rattle.rv_types.proofs.PlaceOrders.{one_list}

in_order : (p q : Sites) → (p ≡ q) ⊎ (IsBefore p q ⊎ IsBefore q p)
in_order [] [] = inl refl
in_order [] (y ∷ ys) = inr (inl tt)
in_order (x ∷ xs) [] = inr (inr tt)
in_order (x ∷ xs) (y ∷ ys) = by (cases_order x y) (in_order xs ys)
  where
    by : (x ≡ y) ⊎ ((x < y) ⊎ (y < x)) → (xs ≡ ys) ⊎ (IsBefore xs ys ⊎ IsBefore ys xs)
        → (x ∷ xs ≡ y ∷ ys) ⊎ (((x < y) ⊎ ((x ≡ y) × IsBefore xs ys)) ⊎ ((y < x) ⊎ ((y ≡ x) × IsBefore ys xs)))
    by (inl same) (inl rest) = inl (λ i. same i ∷ rest i)
    by (inl same) (inr (inl before)) = inr (inl (inr (same, before)))
    by (inl same) (inr (inr after)) = inr (inr (inr (sym same, after)))
    by (inr (inl less)) rest = inr (inl (inl less))
    by (inr (inr more)) rest = inr (inr (inl more))

-- the least of some places is one
pub one_least : (Is : Sites → Type 0) (p q : Place) → IsLeast Is p.sites → IsLeast Is q.sites → p ≡ q
one_least Is p q a b =
    let same : p.sites ≡ q.sites = elim (in_order p.sites q.sites) [
      | inl same ↦ same
      | inr other ↦ elim other [
        | inl before ↦ absurd (b.1 p.sites a.0 before)
        | inr after ↦ absurd (a.1 q.sites b.0 after)
      ]
    ] in
    λ i. record { sites = same i }

-- The memories of a program have one list.
pub one_listing : (p : ProgramTree) (main : Identifier) (xs ys : List MemoryAt) → AreMemories p main IsAny xs → AreMemories p main IsAny ys → xs ≡ ys
one_listing p main xs ys a b = one_list xs ys a.rising b.rising (taken xs ys a b) (taken ys xs b a)
  where
    taken : (xs ys : List MemoryAt) → AreMemories p main IsAny xs → AreMemories p main IsAny ys → (m : MemoryAt) → Contains xs m → Contains ys m
    taken xs ys a b m w = let found = a.only m w in subst (Contains ys) (sym found.5) (b.all found.0 found.1 found.2 found.3 found.4)
