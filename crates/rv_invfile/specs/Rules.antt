-- Rules of documents: which records are awaited after which, and what of a record that is not awaited is at fault.
use Rattle.std.specs.Prelude.{◌≡◌, ◌&&◌, ℕ, zero, suc, Bool, cond, nat_le, List, [], ◌∷◌, ◌++◌, length, Option, Some, None, option_map}
use Rattle.std.specs.List.{list_all}
use Rattle.rv_invfile.specs.declared.fault.Why.{Why}
use Rattle.rv_invfile.specs.declared.fault.Why.TheVariants as why

-- a record: the bytes of its fields
abbrev pub Fields : Type 0
Fields = List (List ℕ)

-- A form of records: which records are of it, by their first field and the number of their fields; whether such a record
-- has the texts of the program; and which of its fields are right, by the fields before them and the number of fields.
pub record Form : Type 0 where
  pub is_kind : Fields → Bool
  pub is_program : Fields → Bool
  pub allows : Fields → ℕ → Bool

-- The rule of a document: nothing more and a value, or a record of one of these forms and then, by that record, the rest.
pub data Rule (A : Type 0) : Type 0 where
  done : A → Rule A
  await : List Form → (Fields → Rule A) → Rule A

-- the bytes that fields may have
abbrev pub is_plain : Fields → Bool
is_plain fields = list_all (λ field. list_all (λ b. nat_le 32 b && nat_le b 126) field) fields

-- the first of the forms that a record is of
abbrev pub form_of : List Form → Fields → Option Form
form_of [] r = None
form_of (f ∷ fs) r = cond (f.is_kind r) (Some f) (form_of fs r)

-- the first number from `at` on, of so many, that fails
abbrev pub first_bad : (ℕ → Bool) → ℕ → ℕ → Option ℕ
first_bad ok at zero = None
first_bad ok at (suc n) = cond (ok at) (first_bad ok (suc at) n) (Some at)

-- what is at fault in a record of a form
abbrev pub fault_by : Option Form → Fields → Option Why
fault_by None r = Some why.WrongKind
fault_by (Some f) r = cond (f.is_program r) (option_map why.BadNumber (first_bad (f.allows r) 0 (length r))) (Some why.WrongProgram)

-- What is at fault in a record where one of these forms is awaited: a byte outside 32 to 126, else the kind, else the texts
-- of the program, else the first field that is not right.
abbrev pub fault_in : List Form → Fields → Option Why
fault_in forms r = cond (is_plain r) (fault_by (form_of forms r) r) (Some why.NotRecords)

-- the forms that are awaited first
abbrev pub awaited : {A : Type 0} → Rule A → List Form
awaited (done a) = []
awaited (await forms next) = forms

-- what is left of a rule after records
abbrev pub after : {A : Type 0} → Rule A → List Fields → Rule A
after rule [] = rule
after (done a) (r ∷ rs) = done a
after (await forms next) (r ∷ rs) = after (next r) rs

-- A record is at fault after those before it, by what is awaited there.
abbrev pub fault_after : {A : Type 0} → Rule A → List Fields → Fields → Option Why
fault_after rule before r = fault_in (awaited (after rule before)) r

-- No record is at fault after those before it.
abbrev pub HasNoFault : {A : Type 0} → Rule A → List Fields → Type 0
HasNoFault rule rs = (before : List Fields) (r : Fields) (more : List Fields) → rs ≡ before ++ r ∷ more → fault_after rule before r ≡ None

-- The records are a document with this value: no record is at fault, and nothing more is awaited.
abbrev pub IsDocument : {A : Type 0} → Rule A → List Fields → A → Type 0
IsDocument rule rs a = HasNoFault rule rs × (after rule rs ≡ done a)
