-- The first fault of records that are no document.
use Rattle.std.specs.Prelude.{◌≡◌, ℕ, List, ◌∷◌, ◌++◌, length, Some}
use Rattle.rv_invfile.specs.Rules.{Fields, Rule, done, fault_after, HasNoFault, after}
use Rattle.rv_invfile.specs.{declared.fault.Why.Why, declared.fault.FileFault.FileFault}
use Rattle.rv_invfile.specs.declared.fault.Why.TheVariants as why
use Rattle.rv_invfile.specs.declared.fault.FileFault.TheVariants as fault

-- The record with this number is at fault in this, and none before it.
pub record Faulty {A : Type 0} (rule : Rule A) (rs : List Fields) (n : ℕ) (y : Why) : Type 0 where
  pub before : List Fields
  pub here : Fields
  pub more : List Fields
  pub records : rs ≡ before ++ here ∷ more
  pub number : length before ≡ n
  pub right : HasNoFault rule before
  pub wrong : fault_after rule before here ≡ Some y

-- No record is at fault, and more are awaited.
pub record Ending {A : Type 0} (rule : Rule A) (rs : List Fields) (n : ℕ) : Type 0 where
  pub number : length rs ≡ n
  pub right : HasNoFault rule rs
  pub unfinished : (a : A) → ¬ (after rule rs ≡ done a)

-- This is the first fault of the records.
abbrev pub IsFirstFault : {A : Type 0} → Rule A → List Fields → FileFault → Type 0
IsFirstFault rule rs (fault.NotRecords n) = Faulty rule rs n why.NotRecords
IsFirstFault rule rs (fault.WrongKind n) = Faulty rule rs n why.WrongKind
IsFirstFault rule rs (fault.WrongProgram n) = Faulty rule rs n why.WrongProgram
IsFirstFault rule rs (fault.BadNumber n i) = Faulty rule rs n (why.BadNumber i)
IsFirstFault rule rs (fault.Ends n) = Ending rule rs n
IsFirstFault rule rs fault.Memory = ⊥
