-- The values of tick bits, which are the modes of a program (Jeannet 2003).
use Rattle.std.specs.Prelude.{◌≡◌, ℕ, ◌<◌, ◌≤◌, List, length, false, slice_index_or}
use Rattle.rv_diagram.specs.{Nodes.Valuation, declared.frozen.Frozen.Frozen}
use Rattle.rv_proofs.specs.Scopes.{IsIn}
use Rattle.rv_split.specs.Partitions.{HasSameValues, part_at}

-- At most n different values of the listed bits occur in the set: some n valuations have them all.
pub record OccurAtMost (bits : List ℕ) (set : Frozen) (n : ℕ) : Type 0 where
  pub values : List Valuation
  pub few : length values ≤ n
  pub each : (v : Valuation) → IsIn set v → (i : ℕ) × (i < length values) × HasSameValues bits v (slice_index_or values i (λ x. false))

-- Two states with the same values of the listed bits are in one part.
abbrev pub AreApart : List ℕ → List Frozen → Type 0
AreApart bits parts = (k n : ℕ) (v w : Valuation) → k < length parts → n < length parts → IsIn (part_at parts k) v → IsIn (part_at parts n) w
    → HasSameValues bits v w → k ≡ n
