-- Reading by a rule answers the value of a document, and otherwise the first fault; and never anything else.
use Rattle.std.proofs.Common.{◌≡◌, ◌+◌, ℕ, Bool, true, false, cond, List, [], ◌∷◌, ◌++◌, length, refl, sym, ap, ◌∙◌, subst, arith}
use Rattle.std.specs.Prelude.{Option, Some, None, Result, Ok, Err}
use Rattle.rv_invfile.specs.Rules.{Fields, Form, Rule, done, await, fault_in, awaited, after, fault_after, HasNoFault, IsDocument, is_plain}
use Rattle.rv_invfile.specs.Readers.{fault_at, ◌>>=◌, judged, run, closing, whole}
use Rattle.rv_invfile.specs.{declared.fault.Why.Why, declared.fault.FileFault.FileFault, Faults.Faulty, Tells.Tells}
use Rattle.rv_invfile.specs.declared.fault.Why.TheVariants as why
use Rattle.rv_invfile.specs.declared.fault.FileFault.TheVariants as fault

-- what comes after a first record, after a rule
after-rest : {A : Type 0} (rule : Rule A) (r : Fields) (rs : List Fields) → after rule (r ∷ rs) ≡ after (after rule (r ∷ [])) rs
after-rest (done a) r [] = refl
after-rest (done a) r (x ∷ rs) = refl
after-rest (await forms next) r rs = refl

abbrev next_of : {A : Type 0} → Rule A → Fields → Rule A
next_of rule r = after rule (r ∷ [])

head-is : (r b : Fields) (rs more : List Fields) → r ∷ rs ≡ b ∷ more → b ≡ r
head-is r b rs more e = cc

tail-is : (r b : Fields) (rs more : List Fields) → r ∷ rs ≡ b ∷ more → rs ≡ more
tail-is r b rs more e = cc

not-cons : {X : Type 0} (r : Fields) (rs : List Fields) → [] ≡ r ∷ rs → X
not-cons r rs e = cc

-- no fault in no records, and none in one more
pub none-first : {A : Type 0} (rule : Rule A) → HasNoFault rule []
none-first rule [] r more e = not-cons r more e
none-first rule (b ∷ bs) r more e = not-cons b (bs ++ r ∷ more) e

pub none-more : {A : Type 0} (rule : Rule A) (r : Fields) (rs : List Fields) → fault_in (awaited rule) r ≡ None → HasNoFault (next_of rule r) rs
    → HasNoFault rule (r ∷ rs)
none-more rule r rs h k [] here more e = subst (λ x. fault_in (awaited rule) x ≡ None) (sym (head-is r here rs more e)) h
none-more rule r rs h k (b ∷ bs) here more e =
    let same : b ≡ r = head-is r b rs (bs ++ here ∷ more) e in
    let left = k bs here more (tail-is r b rs (bs ++ here ∷ more) e) in
    ap (λ x. fault_in (awaited x) here) (after-rest rule b bs) ∙ ap (λ x. fault_after (next_of rule x) bs here) same ∙ left

pub first-right : {A : Type 0} (rule : Rule A) (r : Fields) (rs : List Fields) → HasNoFault rule (r ∷ rs) → fault_in (awaited rule) r ≡ None
first-right rule r rs h = h [] r rs refl

pub rest-right : {A : Type 0} (rule : Rule A) (r : Fields) (rs : List Fields) → HasNoFault rule (r ∷ rs) → HasNoFault (next_of rule r) rs
rest-right rule r rs h before here more e = ap (λ x. fault_in (awaited x) here) (sym (after-rest rule r before)) ∙ h (r ∷ before) here more (ap (λ l. r ∷ l) e)

-- where nothing is awaited each record is at fault
pub nothing-awaited : (r : Fields) → fault_in [] r ≡ None → ⊥
nothing-awaited r = by_plain (is_plain r)
  where
    by_plain : (b : Bool) → cond b (Some why.WrongKind) (Some why.NotRecords) ≡ None → ⊥
    by_plain true e = cc
    by_plain false e = cc

-- ---- What reading answers.
abbrev pub Unfinished : {A : Type 0} → Rule A → Type 0
Unfinished {A = A} rule = (a : A) → ¬ (rule ≡ done a)

abbrev pub FaultyFrom : {A : Type 0} → ℕ → Rule A → List Fields → ℕ → Why → Type 0
FaultyFrom n rule rs m y =
    (before : List Fields) × (here : Fields) × (more : List Fields) × (rs ≡ before ++ here ∷ more) × (m ≡ n + length before) × HasNoFault rule before
    × (fault_after rule before here ≡ Some y)

-- The fault is of the record with this number, counted on from n.
abbrev pub TellsFrom : {A : Type 0} → ℕ → Rule A → List Fields → Result A FileFault → Type 0
TellsFrom n rule rs (Ok a) = IsDocument rule rs a
TellsFrom n rule rs (Err (fault.NotRecords m)) = FaultyFrom n rule rs m why.NotRecords
TellsFrom n rule rs (Err (fault.WrongKind m)) = FaultyFrom n rule rs m why.WrongKind
TellsFrom n rule rs (Err (fault.WrongProgram m)) = FaultyFrom n rule rs m why.WrongProgram
TellsFrom n rule rs (Err (fault.BadNumber m i)) = FaultyFrom n rule rs m (why.BadNumber i)
TellsFrom n rule rs (Err (fault.Ends m)) = (m ≡ n + length rs) × HasNoFault rule rs × Unfinished (after rule rs)
TellsFrom n rule rs (Err fault.Memory) = ⊥

-- one record more before
faulty-more : {A : Type 0} (n : ℕ) (rule : Rule A) (r : Fields) (rs : List Fields) (m : ℕ) (y : Why) → fault_in (awaited rule) r ≡ None
    → FaultyFrom (n + 1) (next_of rule r) rs m y → FaultyFrom n rule (r ∷ rs) m y
faulty-more n rule r rs m y h f = (
  r ∷ f.0,
  f.1,
  f.2,
  ap (λ l. r ∷ l) f.3,
  omega (arith, f.4),
  none-more rule r f.0 h f.5,
  ap (λ x. fault_in (awaited x) f.1) (after-rest rule r f.0) ∙ f.6,
)

tells-more : {A : Type 0} (n : ℕ) (rule : Rule A) (r : Fields) (rs : List Fields) → fault_in (awaited rule) r ≡ None → (x : Result A FileFault)
    → TellsFrom (n + 1) (next_of rule r) rs x → TellsFrom n rule (r ∷ rs) x
tells-more n rule r rs h (Ok a) t = (none-more rule r rs h t.0, after-rest rule r rs ∙ t.1)
tells-more n rule r rs h (Err (fault.NotRecords m)) t = faulty-more n rule r rs m why.NotRecords h t
tells-more n rule r rs h (Err (fault.WrongKind m)) t = faulty-more n rule r rs m why.WrongKind h t
tells-more n rule r rs h (Err (fault.WrongProgram m)) t = faulty-more n rule r rs m why.WrongProgram h t
tells-more n rule r rs h (Err (fault.BadNumber m i)) t = faulty-more n rule r rs m (why.BadNumber i) h t
tells-more n rule r rs h (Err (fault.Ends m)) t = (omega (arith, t.0), none-more rule r rs h t.1, λ a e. t.2 a (sym (after-rest rule r rs) ∙ e))
tells-more n rule r rs h (Err fault.Memory) t = t

faulty-here : {A : Type 0} (n : ℕ) (rule : Rule A) (r : Fields) (rs : List Fields) (y : Why) → fault_in (awaited rule) r ≡ Some y
    → FaultyFrom n rule (r ∷ rs) n y
faulty-here n rule r rs y h = ([], r, rs, refl, omega arith, none-first rule, h)

tells-here : {A : Type 0} (n : ℕ) (rule : Rule A) (r : Fields) (rs : List Fields) (y : Why) → fault_in (awaited rule) r ≡ Some y
    → TellsFrom n rule (r ∷ rs) (Err (fault_at n y))
tells-here n rule r rs why.NotRecords h = faulty-here n rule r rs why.NotRecords h
tells-here n rule r rs why.WrongKind h = faulty-here n rule r rs why.WrongKind h
tells-here n rule r rs why.WrongProgram h = faulty-here n rule r rs why.WrongProgram h
tells-here n rule r rs (why.BadNumber i) h = faulty-here n rule r rs (why.BadNumber i) h

-- all records from the one with number n on
abbrev pub whole_from : {A : Type 0} → Rule A → ℕ → List Fields → Result A FileFault
whole_from rule n rs = run rule (record { taken = n; rest = rs }) >>= λ x. closing x.0 x.1

await-not-done : {A : Type 0} (forms : List Form) (next : Fields → Rule A) → Unfinished (await forms next)
await-not-done forms next a e = cc

tells-done : {A : Type 0} (a : A) (n : ℕ) (r : Fields) (rs : List Fields) (o : Option Why) → fault_in [] r ≡ o
    → TellsFrom n (done a) (r ∷ rs) (judged o n r rs >>= λ x. Ok a)
tells-done a n r rs None h = absurd (nothing-awaited r h)
tells-done a n r rs (Some y) h = tells-here n (done a) r rs y h

tells-await : {A : Type 0} (forms : List Form) (next : Fields → Rule A) (n : ℕ) (r : Fields) (rs : List Fields) (o : Option Why) → fault_in forms r ≡ o
    → TellsFrom (n + 1) (next r) rs (whole_from (next r) (n + 1) rs)
    → TellsFrom n (await forms next) (r ∷ rs) ((judged o n r rs >>= λ x. run (next x.0) x.1) >>= λ x. closing x.0 x.1)
tells-await forms next n r rs None h t = tells-more n (await forms next) r rs h (whole_from (next r) (n + 1) rs) t
tells-await forms next n r rs (Some y) h t = tells-here n (await forms next) r rs y h

pub tells : {A : Type 0} (rule : Rule A) (n : ℕ) (rs : List Fields) → TellsFrom n rule rs (whole_from rule n rs)
tells (done a) n [] = (none-first (done a), refl)
tells (done a) n (r ∷ rs) = tells-done a n r rs (fault_in [] r) refl
tells (await forms next) n [] = (omega arith, none-first (await forms next), await-not-done forms next)
tells (await forms next) n (r ∷ rs) = tells-await forms next n r rs (fault_in forms r) refl (tells (next r) (n + 1) rs)

-- ---- The same, counted from 0.
from-start : {A : Type 0} (rule : Rule A) (rs : List Fields) (m : ℕ) (y : Why) → FaultyFrom 0 rule rs m y → Faulty rule rs m y
from-start rule rs m y f = record { before = f.0; here = f.1; more = f.2; records = f.3; number = omega (arith, f.4); right = f.5; wrong = f.6 }

tells-start : {A : Type 0} (rule : Rule A) (rs : List Fields) (x : Result A FileFault) → TellsFrom 0 rule rs x → Tells rule rs x
tells-start rule rs (Err (fault.NotRecords m)) t = from-start rule rs m why.NotRecords t
tells-start rule rs (Err (fault.WrongKind m)) t = from-start rule rs m why.WrongKind t
tells-start rule rs (Err (fault.WrongProgram m)) t = from-start rule rs m why.WrongProgram t
tells-start rule rs (Err (fault.BadNumber m i)) t = from-start rule rs m (why.BadNumber i) t
tells-start rule rs (Err (fault.Ends m)) t = record { number = omega (arith, t.0); right = t.1; unfinished = t.2 }
tells-start rule rs _ t = t

pub whole_tells : {A : Type 0} (rule : Rule A) (rs : List Fields) → Tells rule rs (whole rule rs)
whole_tells rule rs = tells-start rule rs (whole rule rs) (tells rule 0 rs)

pub reads-document : {A : Type 0} (rule : Rule A) (n : ℕ) (rs : List Fields) (a : A) → IsDocument rule rs a → whole_from rule n rs ≡ Ok a
reads-document (done b) n [] a d = ap Ok (done-is b a d.1)
  where
    done-is : {A : Type 0} (b a : A) → done b ≡ done a → b ≡ a
    done-is b a e = cc
reads-document (done b) n (r ∷ rs) a d = absurd (nothing-awaited r (first-right (done b) r rs d.0))
reads-document (await forms next) n [] a d = absurd (await-not-done forms next a d.1)
reads-document (await forms next) n (r ∷ rs) a d =
    ap (λ o. (judged o n r rs >>= λ x. run (next x.0) x.1) >>= λ x. closing x.0 x.1) (first-right (await forms next) r rs d.0)
    ∙ reads-document (next r) (n + 1) rs a (rest-right (await forms next) r rs d.0, d.1)
