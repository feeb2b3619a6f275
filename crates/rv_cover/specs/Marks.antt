-- Flags of premises, and what multipliers name.
use Rattle.std.specs.Prelude.{◌≡◌, ◌⊎◌, ℕ, ◌+◌, ◌<◌, List, Bool, true, false, Some, get_or, length, slice_get}
use Rattle.rv_rows.specs.{declared.farkas.Weight.Weight, declared.farkas.Multipliers.Multipliers}
use Rattle.rv_proofs.specs.{declared.certificate.Entry.Entry, declared.certificate.EntryKind.EntryKind, declared.certificate.EntryKind.TheVariants.Dead}
use Rattle.rv_proofs.specs.{declared.certificate.EntryKind.TheVariants.Go, declared.certificate.EntryKind.TheVariants.Loop}

-- Beside the flags that were set before those are set, and no others, whose premises are such; premise `first` has the first flag.
pub record AreMarked (old new : List Bool) (first : ℕ) (such : ℕ → Type 0) : Type 0 where
  pub size : length new ≡ length old
  pub kept : (n : ℕ) → get_or old n false ≡ true → get_or new n false ≡ true
  pub marked : (n : ℕ) → n < length old → such (first + n) → get_or new n false ≡ true
  pub only : (n : ℕ) → get_or new n false ≡ true → (get_or old n false ≡ true) ⊎ such (first + n)

-- One of the first k elements of a list names the premise.
pub record OneNames (X : Type 0) (k : ℕ) (xs : List X) (names : X → ℕ → Type 0) (premise : ℕ) : Type 0 where
  pub place : ℕ
  pub element : X
  pub early : place < k
  pub there : slice_get xs place ≡ Some element
  pub named : names element premise

-- Some weight is on the premise.
abbrev pub Names : Multipliers → ℕ → Type 0
Names by premise = OneNames Weight (length by.weights) by.weights (λ w p. w.premise ≡ p) premise

-- Some multipliers of the list name the premise.
abbrev pub NamesAny : List Multipliers → ℕ → Type 0
NamesAny reach premise = OneNames Multipliers (length reach) reach Names premise

-- The multipliers of an entry that is no turn of a loop name the premise.
abbrev pub KindNames : EntryKind → ℕ → Type 0
KindNames (Dead by) premise = Names by premise
KindNames (Go target reach) premise = NamesAny reach premise
KindNames (Loop first before around state) premise = ⊥

abbrev pub EntryNames : Entry → ℕ → Type 0
EntryNames e premise = KindNames e.kind premise

-- Those of some entry of the list do.
abbrev pub EntriesName : List Entry → ℕ → Type 0
EntriesName es premise = OneNames Entry (length es) es EntryNames premise
