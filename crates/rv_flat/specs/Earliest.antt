-- The least of the places that a test picks.
use Rattle.std.specs.Prelude.{◌≡◌, ℕ, ◌<◌, Bool, true, cond, List, [], Option, Some, slice_index_or, None as Nothing}
use Rattle.std.specs.{Ordering.nat_cmp, Ordering.is_lt, Cmp.Lexicographic.slice_cmp}
use Rattle.rv_base.specs.declared.value.Place.{Place}
use Rattle.rv_tree.specs.Places.{Sites}

-- whether a place stands before another
abbrev pub is_before : Sites → Sites → Bool
is_before p q = is_lt (slice_cmp nat_cmp p q)

-- the earlier one of a place and the one so far
abbrev pub sooner : Option Place → Place → Place
sooner Nothing q = q
sooner (Some p) q = cond (is_before q.sites p.sites) q p

-- the place of one of the first numbers, as many as are said, that passes
abbrev pub IsPicked : (ℕ → Bool) → List Sites → ℕ → Sites → Type 0
IsPicked test places n q = (k : ℕ) × (k < n) × (test k ≡ true) × (slice_index_or places k [] ≡ q)
