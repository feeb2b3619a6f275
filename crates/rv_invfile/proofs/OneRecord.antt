-- One record of one form: what is at fault in it, by its kind, its texts of the program and its fields.
use Rattle.std.proofs.Common.{◌≡◌, ℕ, zero, suc, Bool, true, false, cond, List, [], ◌∷◌, length, refl, sym, ap, ◌∙◌, subst}
use Rattle.std.specs.Prelude.{Some, None, Result, Ok, Err, option_map, ⊤, OnOk, IfErr, IsErrOf, IsOk, is_ok}
use Rattle.rv_invfile.specs.declared.fault.Why.TheVariants as why
use Rattle.rv_invfile.specs.declared.fault.Fault.TheVariants as sure
use Rattle.rv_invfile.specs.Readers.{Ahead, ◌>>=◌, Reading, Reads, file_fault, judged, taking, take_in}
use Rattle.rv_invfile.specs.{declared.fault.Fault.Fault, declared.fault.FileFault.FileFault, Rules.Fields, Rules.Form, Rules.fault_by, Rules.form_of}
use Rattle.rv_invfile.specs.{Rules.first_bad, Rules.is_plain}
use Rattle.rv_invfile.specs.{Ahead.first, Ahead.others, Ahead.here, Ahead.after_one, Ahead.kind_fault, Ahead.kind_fault_in}
use Rattle.rv_invfile.specs.declared.fault.FileFault.TheVariants as fault

passes-by : (p k : Bool) (n : ℕ) → cond p (cond k None (Some (fault.WrongKind n))) (Some (fault.NotRecords n)) ≡ None → (p ≡ true) × (k ≡ true)
passes-by true true n h = (refl, refl)
passes-by true false n h = cc
passes-by false k n h = cc

-- what is at fault in it then
pub further-in : (f : Form) (n : ℕ) (rs : List Fields) → kind_fault_in f.is_kind n rs ≡ None
    → take_in (f ∷ []) n rs ≡ judged (fault_by (Some f) (first rs)) n (first rs) (others rs)
further-in f n [] h = cc
further-in f n (r ∷ rs) h =
    let p = passes-by (is_plain r) (f.is_kind r) n h in
    ap (λ b. judged (cond b (fault_by (form_of (f ∷ []) r) r) (Some why.NotRecords)) n r rs) p.0
    ∙ ap (λ b. judged (fault_by (cond b (Some f) None) r) n r rs) p.1

pub further : (f : Form) (s : Ahead) → kind_fault f.is_kind s ≡ None → taking (f ∷ []) s ≡ judged (fault_by (Some f) (here s)) s.taken (here s) (others s.rest)
further f s h = further-in f s.taken s.rest h

pub by_fields : (f : Form) (s : Ahead) → kind_fault f.is_kind s ≡ None → f.is_program (here s) ≡ true
    → taking (f ∷ []) s ≡ judged (option_map why.BadNumber (first_bad (f.allows (here s)) 0 (length (here s)))) s.taken (here s) (others s.rest)
by_fields f s h p =
    further f s h ∙ ap (λ b. judged (cond b (option_map why.BadNumber (first_bad (f.allows (here s)) 0 (length (here s)))) (Some why.WrongProgram)) s.taken
    (here s) (others s.rest)) p

pub bad_field : (f : Form) (s : Ahead) (i : ℕ) → kind_fault f.is_kind s ≡ None → f.is_program (here s) ≡ true
    → first_bad (f.allows (here s)) 0 (length (here s)) ≡ Some i → taking (f ∷ []) s ≡ Err (fault.BadNumber s.taken i)
bad_field f s i h p b = by_fields f s h p ∙ ap (λ o. judged (option_map why.BadNumber o) s.taken (here s) (others s.rest)) b

pub right : (f : Form) (s : Ahead) → kind_fault f.is_kind s ≡ None → f.is_program (here s) ≡ true → first_bad (f.allows (here s)) 0 (length (here s)) ≡ None
    → taking (f ∷ []) s ≡ Ok (here s, after_one s)
right f s h p b = by_fields f s h p ∙ ap (λ o. judged (option_map why.BadNumber o) s.taken (here s) (others s.rest)) b

plain-is : (p : Bool) (n : ℕ) → cond p None (Some (fault.NotRecords n)) ≡ None → p ≡ true
plain-is true n h = refl
plain-is false n h = cc

pub plain_kind : (kind : Fields → Bool) (n : ℕ) (rs : List Fields) → kind_fault_in (λ r. true) n rs ≡ None → kind (first rs) ≡ true
    → kind_fault_in kind n rs ≡ None
plain_kind kind n [] h k = cc
plain_kind kind n (r ∷ rs) h k =
    ap (λ b. cond b (cond (kind r) None (Some (fault.WrongKind n))) (Some (fault.NotRecords n))) (plain-is (is_plain r) n h)
    ∙ ap (λ b. cond b None (Some (fault.WrongKind n))) k

-- ---- What a method returns.
-- it stops as reading stops
pub stops : {X A : Type 0} (view : X → A) (r : Reading A) (e : FileFault) (new : Ahead) → r ≡ Err e → Reads view r (Err e) new
stops view r fault.Memory new h = tt
stops view r _ new h = h

-- it may stop for memory
pub forgets : {X A : Type 0} (view : X → A) (r : Reading A) (e : FileFault) (new : Ahead) → e ≡ fault.Memory → Reads view r (Err e) new
forgets view r e new h = subst (λ x. Reads view r (Err x) new) (sym h) tt

-- a part that stops stops the whole
pub stops_with : {X Y A B : Type 0} (view : X → A) (other : Y → B) (r : Reading A) (whole : Reading B) (e : FileFault) (old new : Ahead)
    → Reads view r (Err e) old → ((x : FileFault) → r ≡ Err x → whole ≡ Err x) → Reads other whole (Err e) new
stops_with view other r whole (fault.NotRecords n) old new h k = k (fault.NotRecords n) h
stops_with view other r whole (fault.WrongKind n) old new h k = k (fault.WrongKind n) h
stops_with view other r whole (fault.WrongProgram n) old new h k = k (fault.WrongProgram n) h
stops_with view other r whole (fault.BadNumber n i) old new h k = k (fault.BadNumber n i) h
stops_with view other r whole (fault.Ends n) old new h k = k (fault.Ends n) h
stops_with view other r whole fault.Memory old new h k = tt

-- A right record that was taken, or no memory.
pub took_right : {A : Type 0} (f : Form) (value : Fields → A) (s : Ahead) (r : Result ⊤ FileFault) (new : Ahead) → taking (f ∷ []) s ≡ Ok (here s, after_one s)
    → OnOk r (new ≡ after_one s) → IfErr r (λ e. e ≡ fault.Memory)
    → Reads (λ u. value (here s)) (taking (f ∷ []) s >>= λ x. Ok (value x.0, x.1)) r new
took_right f value s (Ok u) new h a b = ap (λ z. z >>= λ x. Ok (value x.0, x.1)) h ∙ ap (λ n. Ok (value (here s), n)) (sym a)
took_right f value s (Err e) new h a b = forgets {X = ⊤} (λ u. value (here s)) (taking (f ∷ []) s >>= λ x. Ok (value x.0, x.1)) e new b

pub no_bad : (ok : ℕ → Bool) (at n : ℕ) → ((i : ℕ) → ok i ≡ true) → first_bad ok at n ≡ None
no_bad ok at zero h = refl
no_bad ok at (suc n) h = ap (λ b. cond b (first_bad ok (suc at) n) (Some at)) (h at) ∙ no_bad ok (suc at) n h

-- ---- Where want of memory is told.
-- a fault that is told without memory is none
pub no_memory : (told : Fault) → file_fault told ≡ fault.Memory → ⊥
no_memory (sure.NotRecords n) h = cc
no_memory (sure.WrongKind n) h = cc
no_memory (sure.WrongProgram n) h = cc
no_memory (sure.BadNumber n i) h = cc
no_memory (sure.Ends n) h = cc

pub told_surely : {X : Type 0} (o : Result X FileFault) (told : Fault) (e : FileFault) → o ≡ Err e → e ≡ file_fault told → IsErrOf o fault.Memory → ⊥
told_surely o told e is from h = let same : file_fault told ≡ fault.Memory = cc in no_memory told same

-- a right record is read
pub right_read : {A : Type 0} (f : Form) (value : Fields → A) (s : Ahead) → taking (f ∷ []) s ≡ Ok (here s, after_one s)
    → IsOk {T = A × Ahead} (taking (f ∷ []) s >>= λ x. Ok (value x.0, x.1))
right_read {A} f value s h = ap (λ z. is_ok {T = A × Ahead} (z >>= λ x. Ok (value x.0, x.1))) h
