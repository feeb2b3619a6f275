-- How a part becomes two.
use Rattle.std.specs.Prelude.{◌≡◌, ◌↔◌, ◌⊎◌, ℕ, ◌<◌, Bool, true, false, List, [], ◌∷◌, ◌++◌, length, slice_index, slice_set}
use Rattle.rv_diagram.specs.{Nodes.Valuation, Nodes.value_of, declared.frozen.Frozen.Frozen}
use Rattle.rv_proofs.specs.Scopes.{IsIn}
use Rattle.rv_split.specs.{Partitions.part_at}

-- The test is true at one valuation of the set and false at another.
pub record IsDivided (set : Frozen) (test : Valuation → Bool) : Type 0 where
  pub here : Valuation
  pub in_here : IsIn set here
  pub holds : test here ≡ true
  pub there : Valuation
  pub in_there : IsIn set there
  pub fails : test there ≡ false

-- The test has one value throughout the set.
abbrev pub IsEven : Frozen → (Valuation → Bool) → Type 0
IsEven set test = (v w : Valuation) → IsIn set v → IsIn set w → test v ≡ test w

-- Yes is what is in the set where the test is true, no is the rest, and neither is empty.
pub record IsCut (set : Frozen) (test : Valuation → Bool) (yes no : Frozen) : Type 0 where
  pub yes_exact : (v : Valuation) → IsIn yes v ↔ (IsIn set v × (test v ≡ true))
  pub no_exact : (v : Valuation) → IsIn no v ↔ (IsIn set v × (test v ≡ false))
  pub some_yes : (v : Valuation) × IsIn yes v
  pub some_no : (v : Valuation) × IsIn no v

-- x is the first of the listed variables that divides the set.
pub record IsFirstFree (state : List ℕ) (set : Frozen) (x : ℕ) : Type 0 where
  pub place : ℕ
  pub listed : place < length state
  pub is_x : slice_index state place ≡ x
  pub divided : IsDivided set (λ v. v x)
  pub earlier : (i : ℕ) → i < place → IsEven set (λ v. v (slice_index state i))

-- The part with a number is replaced by two, the second at the end.
pub record IsReplaced (old new : List Frozen) (at : ℕ) (test : Valuation → Bool) : Type 0 where
  pub there : at < length old
  pub yes : Frozen
  pub no : Frozen
  pub cut : IsCut (part_at old at) test yes no
  pub parts : new ≡ slice_set old at yes ++ no ∷ []

-- A part becomes its meet with the hint and the rest where neither is empty; otherwise it is divided by the first state variable
-- of which it has both values.
abbrev pub IsSplitAt : List ℕ → Frozen → List Frozen → List Frozen → ℕ → Type 0
IsSplitAt state hint old new at =
    IsReplaced old new at (value_of hint.nodes hint.root)
    ⊎ (IsEven (part_at old at) (value_of hint.nodes hint.root)
    × ((x : ℕ) × IsFirstFree state (part_at old at) x × IsReplaced old new at (λ v. v x)))
