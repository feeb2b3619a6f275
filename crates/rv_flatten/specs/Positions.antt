-- The numbers of flows along the places of a sequence, and where numbers stand among some.
use Rattle.std.specs.Prelude.{◌≡◌, ℕ, ◌+◌, ◌-◌, ◌<◌, ◌^◌, min, List, [], ◌∷◌, length, slice_index_or, slice_set}
use Rattle.rv_tree.specs.Places.{Sites}
use Rattle.rv_instances.specs.{declared.layout.Layout.Layout, Flowing.place_at, Layouts.callee_or_main, Layouts.here_of}

-- These are the numbers of the places of a sequence, one by one.
pub record AreNumbersOf (places sequence : List Sites) (numbers : List ℕ) : Type 0 where
  pub size : length numbers ≡ length sequence
  pub each : (j : ℕ) → j < length numbers → (slice_index_or numbers j 0 < length places)
      × (place_at places (slice_index_or numbers j 0) ≡ slice_index_or sequence j [])

-- the number of the flow of an instance with a site, up to the greatest of 32 bits
abbrev pub site_number : Layout → ℕ → ℕ → ℕ
site_number l m s = min ((here_of l m).offset + s) (2 ^ 32 - 1)

-- where the layout leads along sites: at each to the number of a flow, and on to the instance that the call there gives
abbrev pub number_from : Layout → ℕ → ℕ → Sites → ℕ
number_from l m number [] = number
number_from l m number (s ∷ sites) = number_from l (callee_or_main l.callees m s) (site_number l m s) sites

-- the instances along calls, the first one included
abbrev pub way_from : Layout → ℕ → Sites → List ℕ
way_from l m [] = m ∷ []
way_from l m (s ∷ sites) = m ∷ way_from l (callee_or_main l.callees m s) sites

-- a list with, at each of some numbers, where that stands among them, counted from j
abbrev pub told : List ℕ → ℕ → List ℕ → List ℕ
told at j [] = at
told at j (n ∷ ns) = told (slice_set at n j) (min (j + 1) (2 ^ 32 - 1)) ns
