-- Enumerations that are not there have no label.
use Rattle.std.proofs.Common.{◌≡◌, ℕ, zero, suc, List, [], ◌∷◌, map, length, get_or, refl, slice_get, None as Nothing}

pub no_labels : {X : Type 0} (xs : List (List X)) (n : ℕ) → slice_get xs n ≡ Nothing → get_or (map (λ ls. length ls) xs) n 0 ≡ 0
no_labels [] n e = refl
no_labels (x ∷ xs) zero e = absurd (cc)
no_labels (x ∷ xs) (suc n) e = no_labels xs n e
