-- What the steps of a split keep.
use Rattle.std.specs.Prelude.{◌≡◌, ◌↔◌, ◌⊎◌, ℕ, ◌+◌, ◌<◌, ◌≤◌, Bool, true, false, List, length, slice_index, slice_index_or}
use Rattle.rv_diagram.specs.Nodes.{Valuation, IsRef, IsFrom, value_of}
use Rattle.rv_diagram.specs.{declared.Triple.Triple, declared.frozen.Frozen.Frozen}
use Rattle.rv_proofs.specs.Scopes.{IsIn}
use Rattle.rv_split.specs.{Partitions.IsListed, Partitions.IsInSome, Partitions.part_at, Splits.IsReplaced, Splits.IsEven, Modes.AreApart}

-- some valuation makes the reference true, or none does
abbrev pub IsMet : List Triple → ℕ → Bool → Type 0
IsMet nodes r true = (v : Valuation) × (value_of nodes r v ≡ true)
IsMet nodes r false = (v : Valuation) → value_of nodes r v ≡ false

-- each told node is true somewhere, or nowhere
abbrev pub AreTold : List Triple → List Bool → Type 0
AreTold nodes told = (i : ℕ) → i < length told → IsMet nodes (i + 2) (slice_index_or told i false)

-- the parts were as many as there may be, or the bit has one value in the part with a number, or divides it
abbrev pub IsStepBy : ℕ → List Frozen → List Frozen → ℕ → ℕ → Type 0
IsStepBy limit old new at x =
    ((new ≡ old) × (limit ≤ length old))
    ⊎ (((new ≡ old) × IsEven (part_at old at) (λ v. v x))
    ⊎ IsReplaced old new at (λ v. v x))

-- Each new part is within an old one.
abbrev pub IsRefined : List Frozen → List Frozen → Type 0
IsRefined old new = (k : ℕ) → k < length new → (n : ℕ) × (n < length old) × ((v : Valuation) → IsIn (part_at new k) v → IsIn (part_at old n) v)

-- What becomes of parts that are divided by a variable: they have the same control states, each is within an old one, and where the
-- old ones are apart by bits of which the variable is one, so are the new ones.
pub record AreKeptBy (x : ℕ) (old new : List Frozen) : Type 0 where
  pub union : (v : Valuation) → IsInSome new v ↔ IsInSome old v
  pub refined : IsRefined old new
  pub grown : length old ≤ length new
  pub apart : (bits : List ℕ) → IsListed bits x → AreApart bits old → AreApart bits new

-- The bit has one value in each part, unless there are as many parts as there may be.
abbrev pub IsRound : ℕ → List Frozen → ℕ → Type 0
IsRound limit parts x = (limit ≤ length parts) ⊎ ((k : ℕ) → k < length parts → IsEven (part_at parts k) (λ v. v x))

-- x has both values among the valuations that make the reference true
pub record IsFreeAt (nodes : List Triple) (at x : ℕ) : Type 0 where
  pub here : Valuation
  pub in_here : value_of nodes at here ≡ true
  pub holds : here x ≡ true
  pub there : Valuation
  pub in_there : value_of nodes at there ≡ true
  pub fails : there x ≡ false

-- they all have one value of x, and are otherwise those of the child
pub record IsForced (nodes : List Triple) (at x child : ℕ) : Type 0 where
  pub value : Bool
  pub found : IsRef nodes child
  pub met : IsMet nodes child true
  pub above : IsFrom nodes (x + 1) child
  pub down : (v : Valuation) → value_of nodes at v ≡ true → (v x ≡ value) × (value_of nodes child v ≡ true)
  pub up : (v : Valuation) → v x ≡ value → value_of nodes child v ≡ true → value_of nodes at v ≡ true

-- The first i listed variables have one value each throughout the set, and the reference stands for what is left to choose.
pub record IsWalked (nodes : List Triple) (root : ℕ) (state : List ℕ) (i at : ℕ) : Type 0 where
  pub found : IsRef nodes at
  pub met : IsMet nodes at true
  pub above : (j : ℕ) → j < i → IsFrom nodes (slice_index state j + 1) at
  pub even : (j : ℕ) → j < i → (v w : Valuation) → value_of nodes root v ≡ true → value_of nodes root w ≡ true → v (slice_index state j) ≡ w
      (slice_index state j)
  pub down : (v : Valuation) → value_of nodes root v ≡ true → value_of nodes at v ≡ true
  pub lift : (v : Valuation) → value_of nodes at v ≡ true → (w : Valuation) × (value_of nodes root w ≡ true)
      × ((k : ℕ) → ((j : ℕ) → j < i → slice_index state j < k) → w k ≡ v k)
