-- What files hold: bytes under names, which are texts.
use Rattle.std.specs.Prelude.{◌≡◌, ℕ, ◌+◌, List, take, ⊤, IsSomeAnd, Option, None, Some}
use Rattle.std.specs.{Ordering.nat_cmp, Cmp.Lexicographic.slice_cmp, FinMap.FinMap, FinMap.get}

-- A finite map from the bytes of a name to the bytes of a file.
abbrev pub Shelf : Type 0
Shelf = FinMap (slice_cmp nat_cmp) (List ℕ)

-- Bytes with P are held under the name, where the files tell what they hold.
abbrev pub HoldsUnder : Option Shelf → List ℕ → (List ℕ → Type 0) → Type 0
HoldsUnder None name P = ⊤
HoldsUnder (Some shelf) name P = IsSomeAnd (get shelf name) P

-- The first limit + 1 bytes of what is held under the name, all of them where there are fewer.
abbrev pub Loads : Option Shelf → List ℕ → ℕ → List ℕ → Type 0
Loads held name limit loaded = HoldsUnder held name (λ bytes. loaded ≡ take (limit + 1) bytes)
