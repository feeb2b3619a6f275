-- Words, which have a truth value for each diagram variable, and the least of them at which something holds.
use Rattle.std.specs.Prelude.{◌≡◌, ℕ, ◌+◌, ◌*◌, ◌<◌, ◌≤◌, Bool, true, false, List, length, Option, Some, None, IsTrue}
use Rattle.rv_diagram.specs.Nodes.{Valuation, valuation_of, value_of, ComesBefore}
use Rattle.rv_diagram.specs.{declared.Triple.Triple, declared.frozen.Frozen.Frozen, declared.store.several.Part.Part, Several.part_at}
use Rattle.rv_proofs.specs.{Systems.System, Systems.IsRead, Systems.HasSameState, Scopes.IsIn}
use Rattle.rv_symbolic.specs.Linked.{AreMet}

-- w comes before v where next copies do not count: at the first other variable at which they differ w is false.
pub record ComesEarlier (s : System) (w v : Valuation) : Type 0 where
  pub at : ℕ
  pub read : IsRead s at
  pub same : (k : ℕ) → k < at → IsRead s k → w k ≡ v k
  pub lower : w at ≡ false
  pub higher : v at ≡ true

-- The word is the least valuation at which this holds.
pub record IsLeastWord (s : System) (holds : Valuation → Type 0) (word : List Bool) : Type 0 where
  pub size : length word ≡ s.variables
  pub here : holds (valuation_of word)
  pub least : (w : Valuation) → holds w → ¬ ComesEarlier s w (valuation_of word)

-- The least valuation at which this holds, as a word. There is none exactly where it holds at no valuation.
abbrev pub IsLeastOf : System → (Valuation → Type 0) → Option (List Bool) → Type 0
IsLeastOf s holds None = (v : Valuation) → ¬ holds v
IsLeastOf s holds (Some word) = IsLeastWord s holds word

-- an allowed valuation of the set at which the observer is false
pub record IsFalseIn (s : System) (from : Frozen) (v : Valuation) : Type 0 where
  pub allowed : IsTrue (s.allowed v)
  pub inside : IsIn from v
  pub fails : s.observer v ≡ false

-- an allowed valuation of the set whose next control state is that of the word
pub record LeadsTo (s : System) (from : Frozen) (to : List Bool) (v : Valuation) : Type 0 where
  pub allowed : IsTrue (s.allowed v)
  pub inside : IsIn from v
  pub next : HasSameState s (s.next v) (valuation_of to)

-- The word is the first valuation over m variables at which this holds, next copies among them.
pub record IsFirstWord (m : ℕ) (holds : Valuation → Type 0) (word : List Bool) : Type 0 where
  pub size : length word ≡ m
  pub here : holds (valuation_of word)
  pub least : (w : Valuation) → holds w → ¬ ComesBefore w (valuation_of word)

-- The first valuation over m variables at which this holds, or none where it holds at none.
abbrev pub IsFirstOf : ℕ → (Valuation → Type 0) → Option (List Bool) → Type 0
IsFirstOf m holds None = (v : Valuation) → ¬ holds v
IsFirstOf m holds (Some word) = IsFirstWord m holds word

-- the next copies from k on and below n have the values that the word gives their state bits
abbrev pub AreCopiesBetween : List Bool → ℕ → ℕ → Valuation → Type 0
AreCopiesBetween word k n v = (i : ℕ) → k ≤ i → i < n → v (2 * i + 1) ≡ valuation_of word (2 * i)

-- The first n next copies have the values that the word gives their state bits.
abbrev pub AreCopies : List Bool → ℕ → Valuation → Type 0
AreCopies word n v = (i : ℕ) → i < n → v (2 * i + 1) ≡ valuation_of word (2 * i)

-- The reference and the first n parts of a relation are true at v.
abbrev pub AreMetWith : List Triple → ℕ → List Part → ℕ → Valuation → Type 0
AreMetWith nodes set parts n v =
    (value_of nodes set v ≡ true) × ((i : ℕ) → i < n → value_of nodes (part_at parts i).relation v ≡ true)

-- A valuation is allowed, its control state is in the set, and the observer is false.
abbrev pub IsFalseAt : List Triple → ℕ → ℕ → Frozen → Valuation → Type 0
IsFalseAt nodes allowed observer from v =
    (value_of nodes allowed v ≡ true) × IsIn from v × (value_of nodes observer v ≡ false)

-- A valuation is allowed, its control state is in the set, its next copies have the values that the word gives the state bits, and all
-- parts of the relation are true at it.
abbrev pub LeadsAt : List Triple → ℕ → List Part → Frozen → List Bool → ℕ → Valuation → Type 0
LeadsAt nodes allowed links from to bits v =
    (value_of nodes allowed v ≡ true) × IsIn from v × AreCopies to bits v × AreMet nodes links v
