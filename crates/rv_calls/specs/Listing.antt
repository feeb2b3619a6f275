-- The instances of a program by the numbers of its nodes, in the order in which a walk comes to them.
use Rattle.std.specs.Prelude.{◌≡◌, ℕ, zero, suc, ◌<◌, List, [], ◌∷◌, ◌++◌, flat_map, length, slice_index_or}
use Rattle.std.specs.{List.Contains, List.Sorted.IsPermutation, List.Sorted.IsNonDecreasingBy}
use Rattle.rv_instances.specs.declared.answer.Instance.{Instance}
use Rattle.rv_calls.specs.declared.calls.Calling.{Calling}

-- the instance that a call of the instance with this path gives
abbrev pub called_instance : List ℕ → Calling → Instance
called_instance path c = record { path = path ++ c.site ∷ []; node = c.callee }

-- an instance and those below it, down to a number of levels
abbrev pub listed : List (List Calling) → ℕ → List ℕ → ℕ → List Instance
listed t zero path k = []
listed t (suc levels) path k = record { path = path; node = k } ∷ flat_map (λ c. listed t levels (path ++ c.site ∷ []) c.callee) (slice_index_or t k [])

-- all of them; no chain of calls has more levels than there are nodes
abbrev pub all_listed : List (List Calling) → List ℕ → ℕ → List Instance
all_listed t path k = listed t (length t) path k

-- what instances that wait give, the last of them first
abbrev pub ahead : List (List Calling) → List Instance → List Instance
ahead t [] = []
ahead t (w ∷ ws) = ahead t ws ++ all_listed t w.path w.node

-- What is found and what is ahead are all instances below a node.
pub record IsExpansion (t : List (List Calling)) (root : ℕ) (found waiting : List Instance) : Type 0 where
  pub whole : found ++ ahead t waiting ≡ all_listed t [] root
  pub within : (w : Instance) → Contains waiting w → w.node < length t

-- The calls of a node, sorted by their sites.
pub record AreSorted (calls sorted : List Calling) : Type 0 where
  pub same : IsPermutation calls sorted
  pub rising : IsNonDecreasingBy (λ c. c.site) sorted

-- the calls of some nodes, each sorted
pub record AreAllSorted (t sorted : List (List Calling)) : Type 0 where
  pub size : length sorted ≡ length t
  pub each : (k : ℕ) → k < length t → AreSorted (slice_index_or t k []) (slice_index_or sorted k [])
