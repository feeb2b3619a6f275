-- Which tests and updates the implications of an entry need, and what is one throughout a scope.
use Rattle.std.specs.Prelude.{◌≡◌, ◌⊎◌, ◌↔◌, ℕ, ◌+◌, ◌<◌, ◌^◌, true, false, Bool, List, length, Option, Some, MatchOption, All, slice_get, slice_index_or}
use Rattle.rv_diagram.specs.{declared.Triple.Triple, Nodes.Valuation, Nodes.value_of, Nodes.valuation_of}
use Rattle.rv_rows.specs.Rows.{RowWithin, row_at}
use Rattle.rv_rows.specs.{declared.linear.Row.Row, declared.linear.Form.Form, declared.farkas.Weight.Weight, declared.farkas.Multipliers.Multipliers}
use Rattle.rv_proofs.specs.{Systems.System, Systems.IsUpdate, Scopes.Implication, Scopes.NamesTest, Scopes.NeedsUpdate, Implied.form_at}

-- Some element of the list is so.
abbrev pub SomeAt : {X : Type 0} → (X → Type 0) → List X → Type 0
SomeAt {X} so xs = (n : ℕ) × (x : X) × (slice_get xs n ≡ Some x) × so x

-- Some multipliers of the implications name the test.
abbrev pub IsNamed : List Implication → ℕ → Type 0
IsNamed list t = SomeAt (λ i. NamesTest i t) list

-- The memory is in some row that is to be proved after the updates.
abbrev pub IsNeeded : List Implication → ℕ → Type 0
IsNeeded list k = SomeAt (λ i. NeedsUpdate i.wanted k) list

-- One weight is on the premise that comes t after the first `given` ones.
abbrev pub Names : ℕ → Multipliers → ℕ → Type 0
Names given m t = SomeAt (λ (w : Weight). w.premise ≡ given + t) m.weights

-- the flag of a number, false past the end
abbrev pub flag_at : List Bool → ℕ → Bool
flag_at flags t = slice_index_or flags t false

-- The numbers of which this is so have been marked beside those that were.
pub record IsMarked (so : ℕ → Type 0) (old new : List Bool) : Type 0 where
  pub size : length new ≡ length old
  pub exact : (t : ℕ) → t < length old → (flag_at new t ≡ true) ↔ ((flag_at old t ≡ true) ⊎ so t)

-- There is a flag for each of the first n numbers, and those of which this is so are marked.
pub record AreFlags (n : ℕ) (so : ℕ → Type 0) (flags : List Bool) : Type 0 where
  pub size : length flags ≡ n
  pub exact : (t : ℕ) → t < n → (flag_at flags t ≡ true) ↔ so t

-- A valuation of the scope, or none where it is empty.
abbrev pub IsPointOf : List Triple → ℕ → ℕ → Option (List Bool) → Type 0
IsPointOf nodes variables scope point = MatchOption point ((v : Valuation) → value_of nodes scope v ≡ false)
    (λ w. (length w ≡ variables) × (value_of nodes scope (valuation_of w) ≡ true))

-- The scope is not empty, and throughout it there is one meaning.
pub record IsStill {Y : Type 0} (nodes : List Triple) (scope : ℕ) (meaning : Valuation → Y) (y : Y) : Type 0 where
  pub some : (v : Valuation) × (value_of nodes scope v ≡ true)
  pub same : (v : Valuation) → value_of nodes scope v ≡ true → meaning v ≡ y

-- Throughout the scope the test has this row.
abbrev pub StaysRow : System → List Triple → ℕ → ℕ → Row → Type 0
StaysRow s nodes scope t r = IsStill nodes scope (λ v. s.row v t) (Some r)

-- Throughout the scope the memory becomes this form.
abbrev pub StaysForm : System → List Triple → ℕ → ℕ → Form → Type 0
StaysForm s nodes scope k f = IsStill nodes scope (λ v. s.update v k) f

-- There is a row for each test, and each marked test has its row throughout the scope.
pub record AreStillRows (s : System) (nodes : List Triple) (scope : ℕ) (named : List Bool) (rows : List Row) : Type 0 where
  pub size : length rows ≡ s.tests
  pub small : All (RowWithin (2 ^ 60)) rows
  pub still : (t : ℕ) → t < s.tests → flag_at named t ≡ true → StaysRow s nodes scope t (row_at rows t)

-- There is a form for each memory, and each marked memory becomes its form throughout the scope.
pub record AreStillForms (s : System) (nodes : List Triple) (scope : ℕ) (needed : List Bool) (forms : List Form) : Type 0 where
  pub size : length forms ≡ s.memories
  pub updates : All (IsUpdate s) forms
  pub still : (k : ℕ) → k < s.memories → flag_at needed k ≡ true → StaysForm s nodes scope k (form_at forms k)

-- Some marked test has no one row throughout the scope.
abbrev pub HasMovingRow : System → List Triple → ℕ → List Bool → Type 0
HasMovingRow s nodes scope named = (t : ℕ) × (t < s.tests) × (flag_at named t ≡ true) × ((r : Row) → ¬ StaysRow s nodes scope t r)

-- Some marked memory has no one form throughout the scope.
abbrev pub HasMovingForm : System → List Triple → ℕ → List Bool → Type 0
HasMovingForm s nodes scope needed = (k : ℕ) × (k < s.memories) × (flag_at needed k ≡ true) × ((f : Form) → ¬ StaysForm s nodes scope k f)
