-- What is read of one group of fields, and of all groups of a record: their values, or the first field that is wrong.
use Rattle.std.specs.Prelude.{◌≡◌, ◌+◌, ◌*◌, ◌<◌, ℕ, Bool, true, false, Result, Ok, Err, ⊤}
use Rattle.rv_invfile.specs.{declared.fault.Fault.Fault, declared.fault.FileFault.FileFault, Rules.Fields, Readers.Ahead, Ahead.here}
use Rattle.rv_invfile.specs.declared.fault.Fault.TheVariants as sure
use Rattle.rv_invfile.specs.declared.fault.FileFault.TheVariants as fault

-- This field of group k is the first wrong one of the group.
pub record IsWrong (width : ℕ) (right : ℕ → Bool) (k i : ℕ) : Type 0 where
  pub place : ℕ
  pub within : place < width
  pub number : i ≡ 2 + width * k + place
  pub before : (j : ℕ) → j < place → right j ≡ true
  pub wrong : right place ≡ false

-- This field is the first wrong one of so many groups.
pub record IsFirstWrong (width count : ℕ) (right : ℕ → ℕ → Bool) (i : ℕ) : Type 0 where
  pub group : ℕ
  pub there : group < count
  pub earlier : (m j : ℕ) → m < group → j < width → right m j ≡ true
  pub here : IsWrong width (right group) group i

-- each field of the first so many groups is right
abbrev pub AreRight : ℕ → ℕ → (ℕ → ℕ → Bool) → Type 0
AreRight width count right = (m j : ℕ) → m < count → j < width → right m j ≡ true

abbrev pub ReadsGroup : {X : Type 0} → ℕ → (Fields → ℕ → ℕ → Bool) → Ahead → ℕ → X → Result X Fault → Type 0
ReadsGroup width right s k value (Ok x) = (x ≡ value) × ((j : ℕ) → j < width → right (here s) k j ≡ true)
ReadsGroup width right s k value (Err (sure.NotRecords n)) = ⊥
ReadsGroup width right s k value (Err (sure.WrongKind n)) = ⊥
ReadsGroup width right s k value (Err (sure.WrongProgram n)) = ⊥
ReadsGroup width right s k value (Err (sure.BadNumber n i)) = (n ≡ s.taken) × IsWrong width (right (here s) k) k i
ReadsGroup width right s k value (Err (sure.Ends n)) = ⊥

abbrev pub ReadsGroups : {X : Type 0} → ℕ → (Fields → ℕ → ℕ → Bool) → Ahead → ℕ → X → Result X FileFault → Type 0
ReadsGroups width right s count value (Ok x) = (x ≡ value) × AreRight width count (right (here s))
ReadsGroups width right s count value (Err fault.Memory) = ⊤
ReadsGroups width right s count value (Err (fault.NotRecords n)) = ⊥
ReadsGroups width right s count value (Err (fault.WrongKind n)) = ⊥
ReadsGroups width right s count value (Err (fault.WrongProgram n)) = ⊥
ReadsGroups width right s count value (Err (fault.BadNumber n i)) = (n ≡ s.taken) × IsFirstWrong width count (right (here s)) i
ReadsGroups width right s count value (Err (fault.Ends n)) = ⊥
