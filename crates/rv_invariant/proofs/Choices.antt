-- Reading parts whose number is told by what follows them.
use Rattle.std.proofs.Common.{◌≡◌, ◌+◌, ℕ, zero, suc, Bool, true, false, cond, List, [], ◌∷◌, ◌++◌, refl, sym, ap, ◌∙◌, subst, inl, inr}
use Rattle.std.specs.Prelude.{◌⊎◌, Option, Some, None, Result, Ok, Err, is_some}
use Rattle.rv_proofs.specs.declared.certificate.Certificate.{Certificate}
use Rattle.rv_invfile.specs.{declared.fault.Why.Why, declared.fault.FileFault.FileFault, Rules.Fields, Rules.Form, Rules.Rule, Rules.await, Rules.form_of}
use Rattle.rv_invfile.specs.{Rules.fault_in, Rules.fault_by, Rules.is_plain, Readers.Ahead, Readers.◌>>=◌, Readers.Reading, Readers.Reads, Readers.judged}
use Rattle.rv_invfile.specs.{Readers.run, Readers.take_in, Parts.bind, Parts.either, Parts.turns, Parts.sees, Parts.sees_in, Ahead.first, Ahead.here}
use Rattle.rv_invfile.specs.declared.fault.Why.TheVariants as why
use Rattle.rv_invfile.specs.declared.fault.FileFault.TheVariants as fault
use Rattle.rv_invfile.proofs.{Bound.run_bind, Bound.bind_ok, Bound.bind_err, OneRecord.stops, OneRecord.stops_with, OneRecord.forgets}
use Rattle.rv_invariant.specs.Continues.{Known, Then, Waits, AllWait, Continues}

pub form-left : (fs gs : List Form) (r : Fields) (f : Form) → form_of fs r ≡ Some f → form_of (fs ++ gs) r ≡ Some f
form-left [] gs r f h = cc
form-left (x ∷ fs) gs r f h = left-by (x.is_kind r) x fs gs r f h (λ e. form-left fs gs r f e)
  where
    left-by : (b : Bool) (x : Form) (fs gs : List Form) (r : Fields) (f : Form) → cond b (Some x) (form_of fs r) ≡ Some f
        → (form_of fs r ≡ Some f → form_of (fs ++ gs) r ≡ Some f) → cond b (Some x) (form_of (fs ++ gs) r) ≡ Some f
    left-by true x fs gs r f h k = h
    left-by false x fs gs r f h k = k h

pub form-right : (fs gs : List Form) (r : Fields) → form_of fs r ≡ None → form_of (fs ++ gs) r ≡ form_of gs r
form-right [] gs r h = refl
form-right (x ∷ fs) gs r h = right-by (x.is_kind r) x fs gs r h (λ e. form-right fs gs r e)
  where
    right-by : (b : Bool) (x : Form) (fs gs : List Form) (r : Fields) → cond b (Some x) (form_of fs r) ≡ None
        → (form_of fs r ≡ None → form_of (fs ++ gs) r ≡ form_of gs r) → cond b (Some x) (form_of (fs ++ gs) r) ≡ form_of gs r
    right-by true x fs gs r h k = cc
    right-by false x fs gs r h k = k h

-- the record that was read decides what comes after it
pub then-here : {A : Type 0} (o : Option Why) (n : ℕ) (r : Fields) (rs : List Fields) (f g : Fields → Rule A) → f r ≡ g r
    → (judged o n r rs >>= λ x. run (f x.0) x.1) ≡ (judged o n r rs >>= λ x. run (g x.0) x.1)
then-here None n r rs f g h = ap (λ p. run p (record { taken = n + 1; rest = rs })) h
then-here (Some y) n r rs f g h = refl

module _ {A : Type 0} (fs gs : List Form) (next then : Fields → Rule A) where
  chosen : (o : Option Form) (n : ℕ) (r : Fields) (rs : List Fields) → form_of fs r ≡ o
      → (judged (fault_in (fs ++ gs) r) n r rs >>= λ x. run (cond (is_some (form_of fs x.0)) (next x.0) (then x.0)) x.1)
      ≡ cond (is_some o) (judged (fault_in fs r) n r rs >>= λ x. run (next x.0) x.1) (judged (fault_in gs r) n r rs >>= λ x. run (then x.0) x.1)
  chosen (Some f) n r rs h =
      let same = form-left fs gs r f h ∙ sym h in
      then-here (fault_in (fs ++ gs) r) n r rs (λ y. cond (is_some (form_of fs y)) (next y) (then y)) next (ap (λ o. cond (is_some o) (next r) (then r)) h)
      ∙ ap (λ o. judged (cond (is_plain r) (fault_by o r) (Some why.NotRecords)) n r rs >>= λ x. run (next x.0) x.1) same
  chosen None n r rs h =
      then-here (fault_in (fs ++ gs) r) n r rs (λ y. cond (is_some (form_of fs y)) (next y) (then y)) then (ap (λ o. cond (is_some o) (next r) (then r)) h)
      ∙ ap (λ o. judged (cond (is_plain r) (fault_by o r) (Some why.NotRecords)) n r rs >>= λ x. run (then x.0) x.1) (form-right fs gs r h)

  either-in : (n : ℕ) (rs : List Fields) → (take_in (fs ++ gs) n rs >>= λ x. run (cond (is_some (form_of fs x.0)) (next x.0) (then x.0)) x.1)
      ≡ cond (sees_in fs rs) (take_in fs n rs >>= λ x. run (next x.0) x.1) (take_in gs n rs >>= λ x. run (then x.0) x.1)
  either-in n [] = refl
  either-in n (r ∷ rs) = chosen (form_of fs r) n r rs refl

  -- The first part is read where a record of its forms stands next, and else the second.
  pub run_either : (s : Ahead) → run (either (await fs next) (await gs then)) s ≡ cond (sees fs s) (run (await fs next) s) (run (await gs then) s)
  run_either s = either-in s.taken s.rest

-- One turn, where what follows the turns awaits a record.
pub run_turns : {A B : Type 0} (n : ℕ) (fs gs : List Form) (next : Fields → Rule A) (rest : List A → Rule B) (then : Fields → Rule B) (s : Ahead)
    → rest [] ≡ await gs then
    → run (turns (suc n) (await fs next) rest) s ≡ cond (sees fs s) (run (await fs next) s >>= λ x. run (turns n (await fs next) (λ more. rest (x.0 ∷ more)))
    x.1) (run (rest []) s)
unfolding turns
run_turns n fs gs next rest then s h =
    ap (λ q. run (either (bind (await fs next) (λ a. turns n (await fs next) (λ more. rest (a ∷ more)))) q) s) h
    ∙ run_either fs gs (λ r. bind (next r) (λ a. turns n (await fs next) (λ more. rest (a ∷ more)))) then s
    ∙ ap (λ r. cond (sees fs s) r (run (await gs then) s)) (run_bind (await fs next) (λ a. turns n (await fs next) (λ more. rest (a ∷ more))) s)
    ∙ ap (λ q. cond (sees fs s) (run (await fs next) s >>= λ x. run (turns n (await fs next) (λ more. rest (x.0 ∷ more))) x.1) (run q s)) (sym h)

pub run_none : {A B : Type 0} (part : Rule A) (rest : List A → Rule B) (s : Ahead) → run (turns zero part rest) s ≡ run (rest []) s
unfolding turns
run_none part rest s = refl

-- ---- Turns, as a loop takes them.
some-by : (b : Bool) (f : Form) → is_some (cond b (Some f) None) ≡ b
some-by true f = refl
some-by false f = refl

sees-in : (f : Form) (rs : List Fields) → f.is_kind [] ≡ false → sees_in (f ∷ []) rs ≡ f.is_kind (first rs)
sees-in f [] h = sym h
sees-in f (r ∷ rs) h = some-by (f.is_kind r) f

-- a record of the form stands next where the record here is of it
pub sees_is : (f : Form) (s : Ahead) → f.is_kind [] ≡ false → sees (f ∷ []) s ≡ f.is_kind (here s)
sees_is f s h = sees-in f s.rest h

module _ {A : Type 0} (f : Form) (next : Fields → Rule A) (rest : List A → Rule Certificate) (s : Ahead) (waits : Waits (rest [])) where
  pub turn_over : (n : ℕ) → sees (f ∷ []) s ≡ false → run (turns n (await (f ∷ []) next) rest) s ≡ run (rest []) s
  turn_over zero h = run_none (await (f ∷ []) next) rest s
  turn_over (suc n) h =
      run_turns n (f ∷ []) waits.0 next rest waits.1 s waits.2
      ∙ ap (λ b. cond b (run (await (f ∷ []) next) s >>= λ x. run (turns n (await (f ∷ []) next) (λ more. rest (x.0 ∷ more))) x.1) (run (rest []) s)) h

  turn_goes : (n : ℕ) → sees (f ∷ []) s ≡ true → run (turns (suc n) (await (f ∷ []) next) rest) s ≡ run (await (f ∷ []) next) s >>= λ x. run
      (turns n (await (f ∷ []) next) (λ more. rest (x.0 ∷ more))) x.1
  turn_goes n h =
      run_turns n (f ∷ []) waits.0 next rest waits.1 s waits.2
      ∙ ap (λ b. cond b (run (await (f ∷ []) next) s >>= λ x. run (turns n (await (f ∷ []) next) (λ more. rest (x.0 ∷ more))) x.1) (run (rest []) s)) h

  pub turn_more : (n : ℕ) (a : A) (s2 : Ahead) → sees (f ∷ []) s ≡ true → run (await (f ∷ []) next) s ≡ Ok (a, s2)
      → run (turns (suc n) (await (f ∷ []) next) rest) s ≡ run (turns n (await (f ∷ []) next) (λ more. rest (a ∷ more))) s2
  turn_more n a s2 h e = turn_goes n h ∙ ap (λ r. r >>= λ x. run (turns n (await (f ∷ []) next) (λ more. rest (x.0 ∷ more))) x.1) e

  pub turn_stops : (n : ℕ) (e : FileFault) → sees (f ∷ []) s ≡ true → run (await (f ∷ []) next) s ≡ Err e
      → run (turns (suc n) (await (f ∷ []) next) rest) s ≡ Err e
  turn_stops n e h k = turn_goes n h ∙ ap (λ r. r >>= λ x. run (turns n (await (f ∷ []) next) (λ more. rest (x.0 ∷ more))) x.1) k

-- ---- What a call that stops tells.
pub stops-or : {X A : Type 0} (view : X → A) (r : Reading A) (e : FileFault) (new : Ahead) → Reads view r (Err e) new → (e ≡ fault.Memory) ⊎ (r ≡ Err e)
stops-or view r fault.Memory new h = inl refl
stops-or view r _ new h = inr h

-- reading that is reading after a part that was read goes on as that
pub continues-after : {X : Type 0} (before after : Then X → Reading Certificate) (r : Result X FileFault) (known : Known) (new : Ahead)
    → ((next : Then X) → AllWait next → before next ≡ after next) → Continues after r known new → Continues before r known new
continues-after before after (Ok x) known new same h = λ next w. same next w ∙ h next w
continues-after {X = X} before after (Err e) known new same h = by h
  where
    by : (e ≡ fault.Memory) ⊎ ((next : Then X) → AllWait next → after next ≡ Err e)
        → (e ≡ fault.Memory) ⊎ ((next : Then X) → AllWait next → before next ≡ Err e)
    by (inl m) = inl m
    by (inr g) = inr (λ next w. same next w ∙ g next w)

-- the same where it stops
pub continues-stop : {X Y : Type 0} (before : Then X → Reading Certificate) (after : Then Y → Reading Certificate) (e : FileFault) (known later : Known)
    (new last : Ahead)
    → ((next : Then X) → AllWait next → (more : Then Y) × AllWait more × (before next ≡ after more)) → Continues after (Err e) known new
    → Continues before (Err e) later last
continues-stop {X = X} {Y = Y} before after e known later new last same h = by h
  where
    by : (e ≡ fault.Memory) ⊎ ((next : Then Y) → AllWait next → after next ≡ Err e)
        → (e ≡ fault.Memory) ⊎ ((next : Then X) → AllWait next → before next ≡ Err e)
    by (inl m) = inl m
    by (inr g) = inr (λ next w. let t = same next w in t.2 ∙ g t.0 t.1)

-- a part that stops, before parts of open end
pub continues-part : {X Y A : Type 0} (view : Y → A) (r : Reading A) (before : Then X → Reading Certificate) (e : FileFault) (known : Known) (old new : Ahead)
    → Reads view r (Err e) old → ((next : Then X) → AllWait next → (x : FileFault) → r ≡ Err x → before next ≡ Err x) → Continues before (Err e) known new
continues-part {X = X} view r before e known old new h k = by (stops-or view r e old h)
  where
    by : (e ≡ fault.Memory) ⊎ (r ≡ Err e) → (e ≡ fault.Memory) ⊎ ((next : Then X) → AllWait next → before next ≡ Err e)
    by (inl m) = inl m
    by (inr x) = inr (λ next w. k next w e x)

-- a part of open end that stops stops the whole
pub stops-with-next : {X A : Type 0} (view : A → Certificate) (before : Then X → Reading Certificate) (r : Reading Certificate) (e : FileFault) (known : Known)
    (old new : Ahead)
    → (next : Then X) → AllWait next → r ≡ before next → Continues before (Err e) known old → Reads view r (Err e) new
stops-with-next {X = X} view before r e known old new next w same h = by h
  where
    by : (e ≡ fault.Memory) ⊎ ((next : Then X) → AllWait next → before next ≡ Err e) → Reads view r (Err e) new
    by (inl m) = forgets view r e new m
    by (inr g) = stops view r e new (same ∙ g next w)

-- a part that is read to its end, and then what comes after it
pub continues-read : {X : Type 0} (p : Rule X) (s : Ahead) (r : Result X FileFault) (known : Known) (new : Ahead) → Reads (λ x. x) (run p s) r new
    → Continues (λ (next : Then X). run (bind p (λ x. next x known)) s) r known new
continues-read p s (Ok x) known new h = λ next w. bind_ok p (λ y. next y known) s new x h
continues-read {X = X} p s (Err e) known new h = continues-part (λ (x : X). x) (run p s) (λ (next : Then X). run (bind p (λ x. next x known)) s) e known new new
    h (λ next w x k. bind_err p (λ y. next y known) s x k)

-- ---- One part after the other, in a reading of several.
pub chain-ok : {A B : Type 0} (p : Rule A) (k : A → Rule B) (whole : Reading B) (s s2 : Ahead) (a : A) → whole ≡ run (bind p k) s → run p s ≡ Ok (a, s2)
    → whole ≡ run (k a) s2
chain-ok p k whole s s2 a e h = e ∙ bind_ok p k s s2 a h

pub chain-stops : {X Y A B : Type 0} (view : X → A) (other : Y → B) (p : Rule A) (k : A → Rule B) (whole : Reading B) (s : Ahead) (e : FileFault) (new : Ahead)
    → whole ≡ run (bind p k) s
    → Reads view (run p s) (Err e) new → Reads other whole (Err e) new
chain-stops view other p k whole s e new same h = stops_with view other (run p s) whole e new new h (λ x is. same ∙ bind_err p k s x is)

-- the last part is the answer
pub chain-last : {X B : Type 0} (view : X → B) (p : Rule B) (whole : Reading B) (s : Ahead) (r : Result X FileFault) (new : Ahead) → whole ≡ run p s
    → Reads view (run p s) r new → Reads view whole r new
chain-last view p whole s r new same h = subst (λ x. Reads view x r new) (sym same) h
