-- A document of the rule of traces is written by the rules of formats, for a trace that fits.
use Rattle.std.proofs.Common.{◌≡◌, ◌+◌, ◌-◌, ◌<◌, ◌≤◌, ℕ, zero, suc, Bool, true, false, cond, List, [], ◌∷◌, ◌++◌, length, map, get_or, refl, sym, ap, ◌∙◌}
use Rattle.std.proofs.Common.{subst, arith, add-one, eqb}
use Rattle.std.proofs.{lemmas.Int.ints, lemmas.Bool.eqb-true, lemmas.Bool.eqb-false, lemmas.List.append-nil}
use Rattle.std.specs.Prelude.{◌&&◌, Option, Some, None, is_some, slice_get, nat_eq, decimal, codes, option_map, ℤ, int_le, ⊤, ◌≤ℤ◌}
use Rattle.std.specs.{Option.unwrap_or, Str.bytes_eq, List.AllByRecursion, Fmt.signed_decimal}
use Rattle.rv_base.specs.declared.value.Value.TheVariants.{Flag, Label, Whole}
use Rattle.rv_base.specs.{declared.value.Value.Value, declared.value.Trace.Trace}
use Rattle.rv_invfile.specs.Rules.{Fields, Form, Rule, done, await, is_plain, form_of, fault_in, fault_by, first_bad, IsDocument}
use Rattle.rv_invfile.specs.Forms.{field, word_of, is_worded, fixed, named, listed, counted, exactly, names, lists, counts}
use Rattle.rv_invfile.specs.Texts.{natural, whole, is_whole, least, greatest, Labels, value_text, HasKind, label_from, value_of, dotted}
use Rattle.rv_invfile.specs.Traces.{first_record, last_record, start_record, start_records, value_texts, instant_record, trace_records, HaveKinds, Fits}
use Rattle.rv_invfile.specs.Traces.{read_value, is_value, started, start, tail_of, read_values, input_kinds, given, instant, trace_end, trace_rule}
use Rattle.rv_invfile.specs.{declared.fault.Why.Why, Parts.bind, Parts.each, Parts.times, Spells.Spells}
use Rattle.rv_invfile.specs.declared.fault.Why.TheVariants as why
use Rattle.rv_flat.specs.{declared.flat.Flat.Flat, declared.parts.FlatMemory.FlatMemory, declared.parts.FlatInput.FlatInput}
use Rattle.rv_types.specs.declared.typed.Kind.{Kind}
use Rattle.rv_types.specs.declared.typed.Kind.TheVariants as kind
use Rattle.rv_invfile.proofs.{Spelled.document-spells, Spelled.bind-parts, Loops.more, Loops.each_more, Loops.each_none, Loops.times_more, Loops.times_none}
use Rattle.rv_invfile.proofs.{Decimals.bytes-same, Decimals.natural-told, SameFields.row-same, Instants.field-allowed}
use Rattle.rv_base.proofs.Truths.{both_of}

value-is : (v w : Value) → Some v ≡ Some w → v ≡ w
value-is v w e = cc

pub number-is : (m n : ℕ) → Some m ≡ Some n → m ≡ n
number-is m n e = cc

-- ---- A record at which nothing is at fault.
pub record Right (f : Form) (r : Fields) : Type 0 where
  pub plain : is_plain r ≡ true
  pub of_kind : f.is_kind r ≡ true
  pub of_program : f.is_program r ≡ true
  pub allowed : (k : ℕ) → k < length r → f.allows r k ≡ true

later-allowed : (ok : ℕ → Bool) (at k : ℕ) (rest : Option ℕ) (b same : Bool) → ok at ≡ b → eqb at k ≡ same → cond b rest (Some at) ≡ None → at ≤ k
    → (rest ≡ None → at < k → ok k ≡ true) → ok k ≡ true
later-allowed ok at k rest true true e d h l then = subst (λ x. ok x ≡ true) (eqb-true at k d) e
later-allowed ok at k rest true false e d h l then = let n : at < k = omega (arith, eqb-false at k d) in then h n
later-allowed ok at k rest false same e d h l then = cc

none-allowed : (ok : ℕ → Bool) (at n : ℕ) → first_bad ok at n ≡ None → (k : ℕ) → at ≤ k → k < at + n → ok k ≡ true
none-allowed ok at zero h k l m = absurd (omega arith)
none-allowed ok at (suc n) h k l m = later-allowed ok at k (first_bad ok (suc at) n) (ok at) (eqb at k) refl refl h l
    (λ rest d. none-allowed ok (suc at) n rest k (omega arith) (omega arith))

right-plain : (p : Bool) (x : Option Why) → cond p x (Some why.NotRecords) ≡ None → (p ≡ true) × (x ≡ None)
right-plain true x h = (refl, h)
right-plain false x h = cc

right-kind : (k : Bool) (f : Form) (r : Fields) → fault_by (cond k (Some f) None) r ≡ None → (k ≡ true) × (fault_by (Some f) r ≡ None)
right-kind true f r h = (refl, h)
right-kind false f r h = cc

right-program : (g : Bool) (o : Option ℕ) → cond g (option_map why.BadNumber o) (Some why.WrongProgram) ≡ None → (g ≡ true) × (o ≡ None)
right-program true None h = (refl, refl)
right-program true (Some i) h = cc
right-program false o h = cc

pub right-record : (f : Form) (r : Fields) → fault_in (f ∷ []) r ≡ None → Right f r
right-record f r h =
    let a = right-plain (is_plain r) (fault_by (form_of (f ∷ []) r) r) h in
    let b = right-kind (f.is_kind r) f r a.1 in
    let d = right-program (f.is_program r) (first_bad (f.allows r) 0 (length r)) b.1 in
    record { plain = a.0; of_kind = b.0; of_program = d.0; allowed = λ k l. none-allowed (f.allows r) 0 (length r) d.1 k (omega arith) (omega arith) }

-- a rule of one record
pub record Single {A : Type 0} (f : Form) (g : Fields → A) (a : A) (rs : List Fields) : Type 0 where
  pub here : Fields
  pub alone : rs ≡ here ∷ []
  pub right : Right f here
  pub value : a ≡ g here

pub single : {A : Type 0} (f : Form) (g : Fields → A) (a : A) (rs : List Fields) → Spells (await (f ∷ []) (λ r. done (g r))) a rs → Single f g a rs
single f g a [] s = absurd s
single f g a (r ∷ rs) s = record { here = r; alone = ap (λ l. r ∷ l) s.1.0; right = right-record f r s.0; value = s.1.1 }

-- ---- The forms.
pub worded : (w : List ℕ) (n : ℕ) (r : Fields) → is_worded w n r ≡ true → (word_of r ≡ w) × (length r ≡ n)
worded w n r h = let p = both_of (bytes_eq (word_of r) w) (nat_eq (length r) n) h in (bytes-same (word_of r) w p.0, eqb-true (length r) n p.1)

pub two-fields : (r : Fields) → length r ≡ 2 → r ≡ field r 0 ∷ field r 1 ∷ []
two-fields (a ∷ b ∷ []) h = refl
two-fields _ h = absurd (omega arith)

three-fields : (r : Fields) → length r ≡ 3 → r ≡ field r 0 ∷ field r 1 ∷ field r 2 ∷ []
three-fields (a ∷ b ∷ x ∷ []) h = refl
three-fields _ h = absurd (omega arith)

pub exactly-written : (x : Fields) (u : ⊤) (rs : List Fields) → Spells (exactly x) u rs → rs ≡ x ∷ []
exactly-written x u rs s = let o = single (fixed x) (λ r. tt) u rs s in o.alone ∙ ap (λ r. r ∷ []) (row-same o.here x o.right.of_kind)

pub names-written : (w t : List ℕ) (u : ⊤) (rs : List Fields) → Spells (names w t) u rs → rs ≡ (w ∷ t ∷ []) ∷ []
names-written w t u rs s =
    let o = single (named w t) (λ r. tt) u rs s in
    let k = worded w 2 o.here o.right.of_kind in
    o.alone ∙ ap (λ r. r ∷ []) (two-fields o.here k.1 ∙ ap (λ x. x ∷ field o.here 1 ∷ []) k.0
    ∙ ap (λ x. w ∷ x ∷ []) (bytes-same (field o.here 1) t o.right.of_program))

pub lists-written : (w : List ℕ) (ts : List (List ℕ)) (u : ⊤) (rs : List Fields) → Spells (lists w ts) u rs → rs ≡ (w ∷ ts) ∷ []
lists-written w ts u rs s = let o = single (listed w ts) (λ r. tt) u rs s in o.alone ∙ ap (λ r. r ∷ []) (row-same o.here (w ∷ ts) o.right.of_program)

pub counts-written : (w : List ℕ) (low high n : ℕ) (rs : List Fields) → Spells (counts w low high) n rs
    → (rs ≡ (w ∷ decimal n ∷ []) ∷ []) × (low ≤ n) × (n ≤ high)
counts-written w low high n rs s =
    let o = single (counted w low high) (λ r. natural (field r 1)) n rs s in
    let k = worded w 2 o.here o.right.of_kind in
    let t = natural-told low high (field o.here 1) (o.right.allowed 1 (omega (arith, k.1))) in (
      o.alone ∙ ap (λ r. r ∷ []) (two-fields o.here k.1 ∙ ap (λ x. x ∷ field o.here 1 ∷ []) k.0 ∙ ap (λ x. w ∷ x ∷ []) (t.0 ∙ ap decimal (sym o.value))),
      omega (arith, t.1, o.value),
      omega (arith, t.2, o.value),
    )

-- ---- Values.
flag-written : (text : List ℕ) (a b : Bool) (v : Value) → bytes_eq text (codes "true") ≡ a → bytes_eq text (codes "false") ≡ b
    → option_map Flag (cond a (Some true) (cond b (Some false) None)) ≡ Some v → (labels : Labels)
    → HasKind labels kind.Bool v × (text ≡ value_text labels kind.Bool v)
flag-written text true b v e d h labels = subst (λ v. HasKind labels kind.Bool v × (text ≡ value_text labels kind.Bool v)) (value-is (Flag true) v h)
    (tt, bytes-same text (codes "true") e)
flag-written text false true v e d h labels = subst (λ v. HasKind labels kind.Bool v × (text ≡ value_text labels kind.Bool v)) (value-is (Flag false) v h)
    (tt, bytes-same text (codes "false") d)
flag-written text false false v e d h labels = cc

whole-low : (z : ℤ) → int_le least z ≡ true → least ≤ℤ z
whole-low z h = grind (arith, ints)

whole-high : (z : ℤ) → int_le z greatest ≡ true → z ≤ℤ greatest
whole-high z h = grind (arith, ints)

whole-written : (text : List ℕ) (b : Bool) (v : Value) → is_whole least greatest text ≡ b → cond b (Some (Whole (whole text))) None ≡ Some v → (labels : Labels)
    → HasKind labels kind.Int v × (text ≡ value_text labels kind.Int v)
whole-written text true v e h labels =
    let p = both_of (bytes_eq text (signed_decimal (whole text)) && int_le least (whole text)) (int_le (whole text) greatest) e in
    let q = both_of (bytes_eq text (signed_decimal (whole text))) (int_le least (whole text)) p.0 in
    subst (λ v. HasKind labels kind.Int v × (text ≡ value_text labels kind.Int v)) (value-is (Whole (whole text)) v h)
    ((whole-low (whole text) q.1, whole-high (whole text) p.1), bytes-same text (signed_decimal (whole text)) q.0)
whole-written text false v e h labels = cc

label-by : (m : ℕ) (l : List ℕ) (ls : List (List ℕ)) (text : List ℕ) (b : Bool) (n : ℕ) → bytes_eq l text ≡ b
    → cond b (Some m) (label_from (m + 1) ls text) ≡ Some n → ((label_from (m + 1) ls text ≡ Some n)
    → (m + 1 ≤ n) × (n < m + 1 + length ls) × (get_or ls (n - (m + 1)) [] ≡ text))
    → (m ≤ n) × (n < m + length (l ∷ ls)) × (get_or (l ∷ ls) (n - m) [] ≡ text)
label-by m l ls text true n e h more =
    let s : m ≡ n = number-is m n h in
    let z : n - m ≡ 0 = omega arith in
    (omega arith, omega arith, ap (λ k. get_or (l ∷ ls) k []) z ∙ bytes-same l text e)
label-by m l ls text false n e h more =
    let t = more h in
    let z : n - m ≡ suc (n - (m + 1)) = omega (arith, t.0) in
    (omega (arith, t.0), omega (arith, t.1), ap (λ k. get_or (l ∷ ls) k []) z ∙ t.2)

label-written : (m : ℕ) (ls : List (List ℕ)) (text : List ℕ) (n : ℕ) → label_from m ls text ≡ Some n
    → (m ≤ n) × (n < m + length ls) × (get_or ls (n - m) [] ≡ text)
label-written m [] text n h = cc
label-written m (l ∷ ls) text n h = label-by m l ls text (bytes_eq l text) n refl h (λ e. label-written (m + 1) ls text n e)

labels-written : (labels : Labels) (e : ℕ) (text : List ℕ) (o : Option ℕ) (v : Value) → label_from 0 (get_or labels e []) text ≡ o → option_map Label o ≡ Some v
    → HasKind labels (kind.Labels e) v × (text ≡ value_text labels (kind.Labels e) v)
labels-written labels e text None v d h = cc
labels-written labels e text (Some n) v d h =
    let t = label-written 0 (get_or labels e []) text n d in
    let z : n - 0 ≡ n = omega arith in
    subst (λ v. HasKind labels (kind.Labels e) v × (text ≡ value_text labels (kind.Labels e) v)) (value-is (Label n) v h)
    (omega (arith, t.1), sym t.2 ∙ ap (λ k. get_or (get_or labels e []) k []) z)

pub value-written : (labels : Labels) (k : Kind) (text : List ℕ) (v : Value) → value_of labels k text ≡ Some v
    → HasKind labels k v × (text ≡ value_text labels k v)
value-written labels kind.Bool text v h = flag-written text (bytes_eq text (codes "true")) (bytes_eq text (codes "false")) v refl refl h labels
value-written labels kind.Int text v h = whole-written text (is_whole least greatest text) v refl h labels
value-written labels (kind.Labels e) text v h = labels-written labels e text (label_from 0 (get_or labels e []) text) v refl h

read-by : (labels : Labels) (k : Kind) (text : List ℕ) (o : Option Value) → value_of labels k text ≡ o → is_some o ≡ true
    → HasKind labels k (unwrap_or o (Flag true)) × (text ≡ value_text labels k (unwrap_or o (Flag true)))
read-by labels k text None e h = cc
read-by labels k text (Some v) e h = value-written labels k text v e

read-written : (labels : Labels) (k : Kind) (text : List ℕ) → is_value labels k text ≡ true
    → HasKind labels k (read_value labels k text) × (text ≡ value_text labels k (read_value labels k text))
read-written labels k text h = read-by labels k text (value_of labels k text) refl h

-- ---- FlatMemory values.
pub start-written : (labels : Labels) (m : FlatMemory) (v : Value) (rs : List Fields) → Spells (start labels m) v rs
    → HasKind labels m.kind v × (rs ≡ start_record labels m v ∷ [])
start-written labels m v rs s =
    let o = single (started labels m) (λ r. read_value labels m.kind (field r 2)) v rs s in
    let k = worded (codes "start") 3 o.here o.right.of_kind in
    let t = read-written labels m.kind (field o.here 2) (o.right.allowed 2 (omega (arith, k.1))) in
    let r = three-fields o.here k.1 ∙ ap (λ x. x ∷ field o.here 1 ∷ field o.here 2 ∷ []) k.0
    ∙ ap (λ x. codes "start" ∷ x ∷ field o.here 2 ∷ []) (bytes-same (field o.here 1) (dotted m.place.sites) o.right.of_program)
    ∙ ap (λ x. codes "start" ∷ dotted m.place.sites ∷ x ∷ []) (t.1 ∙ ap (value_text labels m.kind) (sym o.value)) in
    (subst (HasKind labels m.kind) (sym o.value) t.0, o.alone ∙ ap (λ r. r ∷ []) r)

pub list-first : {A : Type 0} (p : Rule A) (q : Rule (List A)) (vs : List A) (rs : List Fields) → Spells (more p q) vs rs
    → (a : A) × (rest : List A) × (u : List Fields) × (v : List Fields) × (rs ≡ u ++ v) × Spells p a u × Spells q rest v × (vs ≡ a ∷ rest)
list-first p q vs rs s =
    let x = bind-parts p (λ a. bind q (λ rest. done (a ∷ rest))) vs rs s in
    let y = bind-parts q (λ rest. done (x.value ∷ rest)) vs x.back x.second in (
      x.value,
      y.value,
      x.front,
      y.front,
      x.records ∙ ap (λ l. x.front ++ l) (y.records ∙ ap (λ l. y.front ++ l) y.second.0 ∙ append-nil y.front),
      x.first,
      y.first,
      y.second.1,
    )

pub starts-written : (labels : Labels) (ms : List FlatMemory) (vs : List Value) (rs : List Fields) → Spells (each (start labels) ms) vs rs
    → HaveKinds labels (map (λ m. m.kind) ms) vs × (rs ≡ start_records labels ms vs)
starts-written labels [] vs rs s =
    let t = subst (λ p. Spells p vs rs) (each_none (start labels)) s in
    (subst (HaveKinds labels []) (sym t.1) tt, t.0)
starts-written labels (m ∷ ms) vs rs s =
    let t = list-first (start labels m) (each (start labels) ms) vs rs (subst (λ p. Spells p vs rs) (each_more (start labels) m ms) s) in
    let a = start-written labels m t.0 t.2 t.5 in
    let b = starts-written labels ms t.1 t.3 t.6 in (
      subst (HaveKinds labels (map (λ m. m.kind) (m ∷ ms))) (sym t.7) (a.0, b.0),
      t.4 ∙ ap (λ l. l ++ t.3) a.1 ∙ ap (λ l. start_record labels m t.0 ∷ l) b.1
          ∙ ap (start_records labels (m ∷ ms)) (sym t.7),
    )

-- ---- Instants.
texts-written : (labels : Labels) (is : List FlatInput) (ts : List (List ℕ)) → length ts ≡ length is
    → ((i : ℕ) (x : FlatInput) → slice_get is i ≡ Some x → is_value labels x.kind (get_or ts i []) ≡ true)
    → HaveKinds labels (map (λ i. i.kind) is) (read_values labels (map (λ i. i.kind) is) ts)
    × (ts ≡ value_texts labels (map (λ i. i.kind) is) (read_values labels (map (λ i. i.kind) is) ts))
texts-written labels [] [] l h = (tt, refl)
texts-written labels [] (t ∷ ts) l h = absurd (omega arith)
texts-written labels (i ∷ is) [] l h = absurd (omega arith)
texts-written labels (i ∷ is) (t ∷ ts) l h =
    let a = read-written labels i.kind t (h 0 i refl) in
    let b = texts-written labels is ts (omega arith) (λ k x e. h (suc k) x e) in
    ((a.0, b.0), ap (λ x. x ∷ ts) a.1 ∙ ap (λ l. value_text labels i.kind (read_value labels i.kind t) ∷ l) b.1)

whole-row : (r : Fields) (w : List ℕ) (n : ℕ) → word_of r ≡ w → length r ≡ n + 1 → r ≡ w ∷ tail_of r
whole-row [] w n e l = absurd (omega arith)
whole-row (x ∷ r) w n e l = ap (λ y. y ∷ r) e

row-tail : (r : Fields) (n : ℕ) → length r ≡ n + 1 → length (tail_of r) ≡ n
row-tail [] n l = absurd (omega arith)
row-tail (x ∷ r) n l = omega arith

tail-field : (r : Fields) (i : ℕ) → field r (i + 1) ≡ get_or (tail_of r) i []
tail-field [] i = refl
tail-field (x ∷ r) i = ap (λ k. get_or (x ∷ r) k []) (add-one i)

slice-below : (xs : List FlatInput) (i : ℕ) (x : FlatInput) → slice_get xs i ≡ Some x → i < length xs
slice-below [] i x h = cc
slice-below (y ∷ ys) zero x h = omega arith
slice-below (y ∷ ys) (suc i) x h = omega (arith, slice-below ys i x h)

pub instant-written : (f : Flat) (vs : List Value) (rs : List Fields) → Spells (instant f) vs rs
    → HaveKinds f.labels (input_kinds f) vs × (rs ≡ instant_record f vs ∷ [])
instant-written f vs rs s =
    let o = single (given f) (λ r. read_values f.labels (input_kinds f) (tail_of r)) vs rs s in
    let k = worded (codes "instant") (length f.inputs + 1) o.here o.right.of_kind in
    let t = texts-written f.labels f.inputs (tail_of o.here) (row-tail o.here (length f.inputs) k.1)
    (λ i x e. ap (is_value f.labels x.kind) (sym (tail-field o.here i)) ∙ sym (field-allowed f o.here i x e)
    ∙ o.right.allowed (i + 1) (omega (arith, k.1, slice-below f.inputs i x e))) in (
      subst (HaveKinds f.labels (input_kinds f)) (sym o.value) t.0,
      o.alone ∙ ap (λ r. r ∷ []) (whole-row o.here (codes "instant") (length f.inputs) k.0 k.1
          ∙ ap (λ l. codes "instant" ∷ l) (t.1 ∙ ap (value_texts f.labels (input_kinds f)) (sym o.value))),
    )

pub instants-written : (f : Flat) (n : ℕ) (vss : List (List Value)) (rs : List Fields) → Spells (times n (instant f)) vss rs
    → (length vss ≡ n) × AllByRecursion (HaveKinds f.labels (input_kinds f)) vss × (rs ≡ map (instant_record f) vss)
instants-written f zero vss rs s =
    let t = subst (λ p. Spells p vss rs) (times_none (instant f)) s in
    (ap length t.1, subst (AllByRecursion (HaveKinds f.labels (input_kinds f))) (sym t.1) tt, t.0 ∙ ap (map (instant_record f)) (sym t.1))
instants-written f (suc n) vss rs s =
    let t = list-first (instant f) (times n (instant f)) vss rs (subst (λ p. Spells p vss rs) (times_more n (instant f)) s) in
    let a = instant-written f t.0 t.2 t.5 in
    let b = instants-written f n t.1 t.3 t.6 in (
      ap length t.7 ∙ ap suc b.0,
      subst (AllByRecursion (HaveKinds f.labels (input_kinds f))) (sym t.7) (a.0, b.1),
      t.4 ∙ ap (λ l. l ++ t.3) a.1 ∙ ap (λ l. instant_record f t.0 ∷ l) b.2 ∙ ap (map (instant_record f)) (sym t.7),
    )

-- ---- The whole.
end-written : (f : Flat) (starts : List Value) (t : Trace) (rs : List Fields) → Spells (trace_end f starts) t rs
    → (instants : List (List Value)) × (t ≡ record { starts = starts; instants = instants }) × (length instants ≤ 4294967295)
    × AllByRecursion (HaveKinds f.labels (input_kinds f)) instants
    × (rs ≡ (codes "inputs" ∷ map (λ i. i.name) f.inputs) ∷ (codes "instants" ∷ decimal (length instants) ∷ [])
    ∷ (map (instant_record f) instants ++ last_record ∷ []))
end-written f starts t rs s =
    let a = bind-parts (lists (codes "inputs") (map (λ i. i.name) f.inputs))
    (λ a. bind (counts (codes "instants") 0 4294967295) (λ n. bind (times n (instant f))
    (λ instants. bind (exactly last_record) (λ b. done (record { starts = starts; instants = instants }))))) t rs s in
    let b = bind-parts (counts (codes "instants") 0 4294967295) (λ n. bind (times n (instant f))
    (λ instants. bind (exactly last_record) (λ b. done (record { starts = starts; instants = instants })))) t a.back a.second in
    let d = bind-parts (times b.value (instant f)) (λ instants. bind (exactly last_record) (λ b. done (record { starts = starts; instants = instants }))) t
    b.back b.second in
    let e = bind-parts (exactly last_record) (λ b. done (record { starts = starts; instants = d.value })) t d.back d.second in
    let aw = lists-written (codes "inputs") (map (λ i. i.name) f.inputs) a.value a.front a.first in
    let bw = counts-written (codes "instants") 0 4294967295 b.value b.front b.first in
    let dw = instants-written f b.value d.value d.front d.first in
    let ew = exactly-written last_record e.value e.front e.first in (
      d.value,
      e.second.1,
      omega (arith, dw.0, bw.2),
      dw.1,
      a.records ∙ ap (λ l. l ++ a.back) aw ∙ ap (λ l. (codes "inputs" ∷ map (λ i. i.name) f.inputs) ∷ l)
          (b.records ∙ ap (λ l. l ++ b.back) bw.0 ∙ ap (λ n. (codes "instants" ∷ decimal n ∷ []) ∷ b.back) (sym dw.0)
          ∙ ap (λ l. (codes "instants" ∷ decimal (length d.value) ∷ []) ∷ l)
          (d.records ∙ ap (λ l. l ++ d.back) dw.2 ∙ ap (λ l. map (instant_record f) d.value ++ l)
          (e.records ∙ ap (λ l. l ++ e.back) ew ∙ ap (λ l. last_record ∷ l) e.second.0))),
    )

pub trace-written : (f : Flat) (t : Trace) (rs : List Fields) → IsDocument (trace_rule f) rs t → Fits f t × (rs ≡ trace_records f t)
trace-written f t rs doc =
    let s = document-spells (trace_rule f) t rs doc in
    let k3 = λ (c : ℕ). bind (each (start f.labels) f.memories) (trace_end f) in
    let k2 = λ (b : ⊤). bind (counts (codes "starts") (length f.memories) (length f.memories)) k3 in
    let k1 = λ (a : ⊤). bind (names (codes "main") f.main) k2 in
    let a = bind-parts (exactly first_record) k1 t rs s in
    let b = bind-parts (names (codes "main") f.main) k2 t a.back a.second in
    let d = bind-parts (counts (codes "starts") (length f.memories) (length f.memories)) k3 t b.back b.second in
    let e = bind-parts (each (start f.labels) f.memories) (trace_end f) t d.back d.second in
    let aw = exactly-written first_record a.value a.front a.first in
    let bw = names-written (codes "main") f.main b.value b.front b.first in
    let dw = counts-written (codes "starts") (length f.memories) (length f.memories) d.value d.front d.first in
    let ew = starts-written f.labels f.memories e.value e.front e.first in
    let gw = end-written f e.value t e.back e.second in
    let n : d.value ≡ length f.memories = omega (arith, dw.1, dw.2) in
    let rs2 = a.records ∙ ap (λ l. l ++ a.back) aw ∙ ap (λ l. first_record ∷ l)
    (b.records ∙ ap (λ l. l ++ b.back) bw ∙ ap (λ l. (codes "main" ∷ f.main ∷ []) ∷ l)
    (d.records ∙ ap (λ l. l ++ d.back) dw.0 ∙ ap (λ n. (codes "starts" ∷ decimal n ∷ []) ∷ d.back) n
    ∙ ap (λ l. (codes "starts" ∷ decimal (length f.memories) ∷ []) ∷ l)
    (e.records ∙ ap (λ l. l ++ e.back) ew.1 ∙ ap (λ l. start_records f.labels f.memories e.value ++ l) gw.4))) in
    (subst (Fits f) (sym gw.1) (record { starts = ew.0; count = gw.2; instants = gw.3 }), rs2 ∙ ap (trace_records f) (sym gw.1))
