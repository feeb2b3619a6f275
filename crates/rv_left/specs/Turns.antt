-- How parts are split, and what comes of it.
use Rattle.std.specs.Prelude.{◌≡◌, ◌⊎◌, ℕ, ◌+◌, ◌<◌, List, length, Option, Some, None, slice_get}
use Rattle.rv_diagram.specs.declared.frozen.Frozen.{Frozen}
use Rattle.rv_proofs.specs.declared.report.Why.{Why}
use Rattle.rv_proofs.specs.declared.report.Why.TheVariants.{Locations, Stuck}
use Rattle.rv_split.specs.{Partitions.IsSingle, Partitions.part_at, Splits.IsSplitAt}
use Rattle.rv_walk.specs.Ends.{has}
use Rattle.rv_left.specs.Meeting.{Meets, AreApart}

-- the part has no failing control state, or one control state alone
abbrev pub IsOver : List ℕ → Frozen → Frozen → Type 0
IsOver state failing part = AreApart (has part) (has failing) ⊎ IsSingle state part

-- A turn at a part: it is over and the next one comes, or it is split and comes again; or there are as many parts as may be, and nothing changes.
abbrev pub IsTurned : ℕ → List ℕ → Frozen → List Frozen → List Frozen → ℕ → Option ℕ → Type 0
IsTurned limit state failing old new at None = (new ≡ old) × (length old ≡ limit)
IsTurned limit state failing old new at (Some next) =
    ((next ≡ at + 1) × (new ≡ old) × IsOver state failing (part_at old at)) ⊎ ((next ≡ at) × IsSplitAt state failing old new at)

-- each part below a number is over
abbrev pub AreOver : List ℕ → Frozen → List Frozen → ℕ → Type 0
AreOver state failing parts n = (k : ℕ) → k < n → IsOver state failing (part_at parts k)

-- There are as many parts as may be, or each is over.
abbrev pub IsEnded : ℕ → List ℕ → Frozen → List Frozen → Why → Type 0
IsEnded limit state failing parts (Locations n) = (length parts ≡ limit) × (n ≡ limit)
IsEnded limit state failing parts Stuck = AreOver state failing parts (length parts)

-- The numbers of those of the first n parts that have a failing control state, in rising order.
pub record AreMarked (parts : List Frozen) (failing : Frozen) (n : ℕ) (left : List ℕ) : Type 0 where
  pub rising : (i j k m : ℕ) → i < j → slice_get left i ≡ Some k → slice_get left j ≡ Some m → k < m
  pub there : (i k : ℕ) → slice_get left i ≡ Some k → (k < n) × Meets (has (part_at parts k)) (has failing)
  pub each : (k : ℕ) → k < n → ((i : ℕ) × (slice_get left i ≡ Some k)) ⊎ AreApart (has (part_at parts k)) (has failing)
