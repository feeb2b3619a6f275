-- How far a limit rises.
use Rattle.std.specs.Prelude.{◌≡◌, ◌⊎◌, ℤ, ◌+ℤ◌, ◌≤ℤ◌, ◌<◌, ℕ, List, Option, Some, true}
use Rattle.std.specs.List.{Contains}
use Rattle.rv_diagram.specs.{declared.Triple.Triple, Nodes.Valuation, Nodes.value_of}
use Rattle.rv_terms.specs.{declared.parted.Part.Part, Parts.form_at, Parts.part_at}

-- A limit, risen no further than it must: what is asked holds for it, it has not fallen, is a threshold where it is another than before, and is at
-- most the old limit and each threshold that is not below it, where that holds for them. So it stays where that holds for the old limit.
pub record IsRisen (thresholds : List ℤ) (Holds : ℤ → Type 0) (old new : Option ℤ) : Type 0 where
  pub held : (b : ℤ) → new ≡ Some b → Holds b
  pub rises : (b : ℤ) → new ≡ Some b → (a : ℤ) × (old ≡ Some a) × (a ≤ℤ b)
  pub among : (b : ℤ) → new ≡ Some b → (old ≡ Some b) ⊎ Contains thresholds b
  pub least : (a b : ℤ) → old ≡ Some a → a ≤ℤ b → (old ≡ Some b) ⊎ Contains thresholds b → Holds b → (x : ℤ) × (new ≡ Some x) × (x ≤ℤ b)

-- Where the reference is true the term's constant and the number sum to at most z.
abbrev pub EndsWithin : List Triple → ℕ → List Part → ℤ → ℤ → Type 0
EndsWithin nodes inside parts number z = (v : Valuation) → value_of nodes inside v ≡ true → ((form_at nodes parts v).constant +ℤ number) ≤ℤ z

-- the same of one part of the term, where it holds
abbrev pub PartWithin : List Triple → ℕ → Part → ℤ → ℤ → Type 0
PartWithin nodes inside p number z = (v : Valuation) → value_of nodes inside v ≡ true → value_of nodes p.under v ≡ true → (p.form.constant +ℤ number) ≤ℤ z

-- the same of the first n parts
abbrev pub PartsWithin : List Triple → ℕ → List Part → ℕ → ℤ → ℤ → Type 0
PartsWithin nodes inside parts n number z = (i : ℕ) → i < n → PartWithin nodes inside (part_at parts i) number z
