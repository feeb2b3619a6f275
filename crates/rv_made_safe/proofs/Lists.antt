-- What stands in lists.
use Rattle.std.proofs.Common.{◌≡◌, ℕ, zero, suc, List, [], ◌∷◌, refl, get_or}
use Rattle.std.specs.List.{Contains}
use Rattle.rv_types.proofs.Members.{at_head, in_tail}

-- what all elements are is at each number, where it also stands for those that are past the end
pub all_at : {X : Type 0} (xs : List X) (y : X) → ((x : X) → Contains xs x → x ≡ y) → (k : ℕ) → get_or xs k y ≡ y
all_at [] y all k = refl
all_at (x ∷ xs) y all zero = all x (at_head x xs)
all_at (x ∷ xs) y all (suc k) = all_at xs y (λ z w. all z (in_tail x xs z w)) k
