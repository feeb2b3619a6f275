-- The memories of a flat system, made one after the other.
use Rattle.std.proofs.Common.{◌≡◌, inl, inr, [], ◌∷◌, ◌++◌, List, subst}
use Rattle.std.proofs.lemmas.List.Elements.{Contains-push_cases}
use Rattle.std.specs.List.{Contains}

-- what holds for the elements of a list and for one more holds for all of them
pub and_one_more : {X : Type 0} (P : X → Type 0) (xs new : List X) (y : X) → new ≡ xs ++ y ∷ [] → ((x : X) → Contains xs x → P x) → P y → (x : X)
    → Contains new x → P x
and_one_more P xs new y grown so_far found x w = elim (Contains-push_cases xs y x (subst (λ l. Contains l x) grown w)) [
  | inl before ↦ so_far x before
  | inr is ↦ subst P is found
]
