-- Falsifying runs as words: one list of truth values for each instant, by the number of the diagram variable.
use Rattle.std.specs.Prelude.{◌≡◌, ℕ, ◌+◌, ◌<◌, ◌≤◌, Bool, List, [], ℤ, length, Some, IsTrue, slice_get, slice_index_or}
use Rattle.rv_diagram.specs.Nodes.{Valuation, valuation_of}
use Rattle.rv_proofs.specs.Systems.{System}
use Rattle.rv_walk.specs.Falsified.{IsFalsifyingRun}

-- the valuation of an instant
abbrev pub at_instant : List (List Bool) → ℕ → Valuation
at_instant words t = valuation_of (slice_index_or words t [])

-- what integers there are at each instant where there are none
abbrev pub no_integers : ℕ → List ℤ
no_integers t = []

-- The words are a run of a system without integers: the assertions hold at each instant, the observer is false at the last one and
-- true before.
pub record IsFalsifyingPath (s : System) (words : List (List Bool)) : Type 0 where
  pub last : ℕ
  pub count : length words ≡ last + 1
  pub sizes : (t : ℕ) (word : List Bool) → slice_get words t ≡ Some word → length word ≡ s.variables
  pub run : IsFalsifyingRun s last (at_instant words) no_integers
  pub before : (t : ℕ) → t < last → IsTrue (s.observer (at_instant words t))

-- No falsifying run has fewer instants.
abbrev pub IsShortestPath : System → List (List Bool) → Type 0
IsShortestPath s words = (t : ℕ) (vs : ℕ → Valuation) (points : ℕ → List ℤ) → IsFalsifyingRun s t vs points → length words ≤ t + 1
