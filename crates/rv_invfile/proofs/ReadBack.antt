-- What is written for a trace that fits is a document with that trace.
use Rattle.std.proofs.Common.{◌≡◌, ◌+◌, ◌-◌, ◌<◌, ◌≤◌, ◌^◌, ℕ, zero, suc, Bool, true, false, cond, List, [], ◌∷◌, ◌++◌, length, map, get_or, refl, sym, ap, ◌∙◌}
use Rattle.std.proofs.Common.{subst, arith, eqb, inl, inr}
use Rattle.std.proofs.{lemmas.Int.ints, lemmas.List.append-nil, lemmas.List.length-map, lemmas.Bool.eqb-true, lemmas.Bool.eq-eqb, lemmas.Bool.le-leb}
use Rattle.std.proofs.{Math.Dec.eqb-suc-zero, lemmas.Bool.Decides.nat_tests, lemmas.Fmt.decimal_is_IsNumeral, lemmas.Str.Parse.digit_from_value}
use Rattle.std.specs.Prelude.{◌&&◌, ◌||◌, Option, Some, None, is_some, slice_get, nat_eq, nat_le, nat_lt, decimal, codes, option_map, ℤ, pos, negsuc, neg_ℤ}
use Rattle.std.specs.Prelude.{int_le, ⊤, ◌≤ℤ◌}
use Rattle.std.specs.{Option.unwrap_or, Str.bytes_eq, Str.Parse.AllDigits, List.AllByRecursion, List.list_all, Fmt.signed_decimal}
use Rattle.rv_base.specs.declared.value.Value.TheVariants.{Flag, Label, Whole}
use Rattle.rv_base.specs.{declared.value.Value.Value, declared.value.Trace.Trace}
use Rattle.rv_invfile.specs.declared.fault.Why.TheVariants as why
use Rattle.rv_types.specs.declared.typed.Kind.{Kind}
use Rattle.rv_types.specs.declared.typed.Kind.TheVariants as kind
use Rattle.rv_invfile.specs.Rules.{Fields, Form, Rule, done, await, is_plain, form_of, fault_in, fault_by, first_bad, IsDocument}
use Rattle.rv_invfile.specs.Told.{IsAmong, AreDifferent, IsTold, HasValues, IsIn}
use Rattle.rv_invfile.specs.Texts.{natural, whole, is_whole, least, greatest, Labels, label_at, value_text, HasKind, label_from, value_of, dotted, is_natural}
use Rattle.rv_invfile.specs.Forms.{field, fixed, named, listed, counted, exactly, names, lists, counts}
use Rattle.rv_invfile.specs.Traces.{first_record, last_record, start_record, start_records, value_texts, instant_record, trace_records, HaveKinds, Fits}
use Rattle.rv_invfile.specs.Traces.{read_value, is_value, is_value_at, started, start, tail_of, read_values, input_kinds, given, instant, trace_end, trace_rule}
use Rattle.rv_invfile.specs.{Spells.Spells, Spells.IsAlive, Parts.bind, Parts.each, Parts.times}
use Rattle.rv_tree.specs.Words.{is_name_byte, is_name}
use Rattle.rv_invfile.proofs.{Begins.alive-bind, Begins.alive-times, Digits.decimal-all, Digits.dotted-all, Digits.signed-all, Written.Right}
use Rattle.rv_invfile.proofs.{Decimals.same-bytes, Decimals.bytes-same, Decimals.natural-is, Decimals.within, Instants.none-bad, Spelled.spells-document}
use Rattle.rv_invfile.proofs.{Spelled.parts-bind, Loops.more, Loops.each_more, Loops.each_none, Loops.times_more, Loops.times_none, SameFields.same-row}
use Rattle.rv_flat.specs.{declared.flat.Flat.Flat, declared.parts.FlatMemory.FlatMemory, declared.parts.FlatInput.FlatInput}
use Rattle.rv_base.proofs.Truths.{both_of as both}

-- ---- A right record is one at which nothing is at fault.
pub right-fault : (f : Form) (r : Fields) → Right f r → fault_in (f ∷ []) r ≡ None
right-fault f r h =
    ap (λ b. cond b (fault_by (form_of (f ∷ []) r) r) (Some why.NotRecords)) h.plain
    ∙ ap (λ b. fault_by (cond b (Some f) None) r) h.of_kind
    ∙ ap (λ b. cond b (option_map why.BadNumber (first_bad (f.allows r) 0 (length r))) (Some why.WrongProgram)) h.of_program
    ∙ ap (option_map why.BadNumber) (none-bad (f.allows r) 0 (length r) (λ k l. h.allowed k (omega arith)))

pub right-spells : {A : Type 0} (f : Form) (g : Fields → A) (r : Fields) → Right f r → Spells (await (f ∷ []) (λ r. done (g r))) (g r) (r ∷ [])
right-spells f g r h = (right-fault f r h, (refl, refl))

-- ---- Plain texts.
abbrev pub is_plain_byte : ℕ → Bool
is_plain_byte b = nat_le 32 b && nat_le b 126

abbrev pub is_plain_text : List ℕ → Bool
is_plain_text text = list_all is_plain_byte text

digit-plain : (d : ℕ) → d < 10 → is_plain_byte (48 + d) ≡ true
digit-plain d h = ap (λ b. b && nat_le (48 + d) 126) (le-leb 32 (48 + d) (omega arith)) ∙ le-leb (48 + d) 126 (omega arith)

pub decimal-plain : (n : ℕ) → is_plain_text (decimal n) ≡ true
decimal-plain = decimal-all is_plain_byte digit-plain

pub dotted-plain : (sites : List ℕ) → is_plain_text (dotted sites) ≡ true
dotted-plain = dotted-all is_plain_byte digit-plain refl

pub signed-plain : (z : ℤ) → is_plain_text (signed_decimal z) ≡ true
signed-plain = signed-all is_plain_byte digit-plain refl

letter-plain : (b : ℕ) → is_name_byte b ≡ true → (nat_le 32 b && nat_le b 126) ≡ true
letter-plain b h = grind (arith, nat_tests)

pub name-plain : (text : List ℕ) → is_name text ≡ true → is_plain_text text ≡ true
name-plain [] h = refl
name-plain (b ∷ bs) h =
    let p = both (is_name_byte b) (is_name bs) h in
    ap (λ c. c && is_plain_text bs) (letter-plain b p.0) ∙ name-plain bs p.1
  where
    both : (a b : Bool) → (a && b) ≡ true → (a ≡ true) × (b ≡ true)
    both true true e = (refl, refl)
    both true false e = cc
    both false b e = cc

-- ---- Values.
digits-whole : (ds : List ℕ) → AllDigits 10 ds → whole ds ≡ pos (natural ds)
digits-whole [] h = refl
digits-whole (c ∷ cs) h = ap (λ b. cond b (neg_ℤ (pos (natural cs))) (pos (natural (c ∷ cs))))
    (unlike (eqb c 45) c refl (omega (arith, digit_from_value c h.0)))
  where
    unlike : (b : Bool) (c : ℕ) → eqb c 45 ≡ b → 48 ≤ c → b ≡ false
    unlike true c e l = absurd (omega (arith, eqb-true c 45 e))
    unlike false c e l = refl

pub whole-is : (z : ℤ) → least ≤ℤ z → z ≤ℤ greatest → whole (signed_decimal z) ≡ z
whole-is (pos n) l h =
    let small : n < 2 ^ 64 = omega (arith, ints) in
    digits-whole (decimal n) (decimal_is_IsNumeral n small).0.1 ∙ ap pos (natural-is (decimal n) n small refl)
whole-is (negsuc n) l h =
    let small : suc n < 2 ^ 64 = omega (arith, ints) in
    ap (λ m. neg_ℤ (pos m)) (natural-is (decimal (suc n)) (suc n) small refl)

low-test : (z : ℤ) → least ≤ℤ z → int_le least z ≡ true
low-test z h = grind (arith, ints)

high-test : (z : ℤ) → z ≤ℤ greatest → int_le z greatest ≡ true
high-test z h = grind (arith, ints)

whole-right : (z : ℤ) → least ≤ℤ z → z ≤ℤ greatest → is_whole least greatest (signed_decimal z) ≡ true
whole-right z l h =
    let s = whole-is z l h in
    ap (λ y. bytes_eq (signed_decimal z) (signed_decimal y) && int_le least y && int_le y greatest) s
    ∙ ap (λ b. b && int_le least z && int_le z greatest) (same-bytes (signed_decimal z) (signed_decimal z) refl)
    ∙ ap (λ b. true && b && int_le z greatest) (low-test z l) ∙ high-test z h

among : (ls : List (List ℕ)) (i : ℕ) → i < length ls → IsAmong (get_or ls i []) ls
among [] i h = absurd (omega arith)
among (l ∷ ls) zero h = inl refl
among (l ∷ ls) (suc i) h = inr (among ls i (omega arith))

label-first : (m : ℕ) (l : List ℕ) (ls : List (List ℕ)) (text : List ℕ) (b : Bool) (o : Option ℕ) → bytes_eq l text ≡ b → (bytes_eq l text ≡ true → ⊥)
    → label_from (m + 1) ls text ≡ o → label_from m (l ∷ ls) text ≡ o
label-first m l ls text true o e unlike h = absurd (unlike e)
label-first m l ls text false o e unlike h = ap (λ b. cond b (Some m) (label_from (m + 1) ls text)) e ∙ h

pub label-found : (m : ℕ) (ls : List (List ℕ)) (i : ℕ) → AreDifferent ls → i < length ls → label_from m ls (get_or ls i []) ≡ Some (m + i)
label-found m [] i d h = absurd (omega arith)
label-found m (l ∷ ls) zero d h = ap (λ b. cond b (Some m) (label_from (m + 1) ls l)) (same-bytes l l refl) ∙ ap Some (omega arith)
label-found m (l ∷ ls) (suc i) d h =
    label-first m l ls (get_or ls i []) (bytes_eq l (get_or ls i [])) (Some (m + suc i)) refl
    (λ e. d.0 (subst (λ x. IsAmong x ls) (sym (bytes-same l (get_or ls i []) e)) (among ls i (omega arith))))
    (label-found (m + 1) ls i d.1 (omega arith) ∙ ap Some (omega arith))

-- the labels of each enumeration differ
abbrev pub AllDifferent : Labels → Type 0
AllDifferent labels = (e : ℕ) → AreDifferent (get_or labels e [])

pub value-back : (labels : Labels) → AllDifferent labels → (k : Kind) (v : Value) → HasKind labels k v → value_of labels k (value_text labels k v) ≡ Some v
value-back labels d kind.Bool (Flag true) h = refl
value-back labels d kind.Bool (Flag false) h = refl
value-back labels d kind.Bool (Label n) h = absurd h
value-back labels d kind.Bool (Whole z) h = absurd h
value-back labels d kind.Int (Flag b) h = absurd h
value-back labels d kind.Int (Label n) h = absurd h
value-back labels d kind.Int (Whole z) h = ap (λ b. cond b (Some (Whole (whole (signed_decimal z)))) None) (whole-right z h.0 h.1)
    ∙ ap (λ y. Some (Whole y)) (whole-is z h.0 h.1)
value-back labels d (kind.Labels e) (Flag b) h = absurd h
value-back labels d (kind.Labels e) (Label n) h = ap (option_map Label) (label-found 0 (get_or labels e []) n (d e) h) ∙ ap (λ m. Some (Label m)) (omega arith)
value-back labels d (kind.Labels e) (Whole z) h = absurd h

name-at : (ls : List (List ℕ)) (n : ℕ) → list_all is_name ls ≡ true → is_name (get_or ls n []) ≡ true
name-at [] n h = refl
name-at (l ∷ ls) zero h = (both (is_name l) (list_all is_name ls) h).0
name-at (l ∷ ls) (suc n) h = name-at ls n (both (is_name l) (list_all is_name ls) h).1

names-at : (labels : Labels) (e : ℕ) → list_all (list_all is_name) labels ≡ true → list_all is_name (get_or labels e []) ≡ true
names-at [] e h = refl
names-at (l ∷ ls) zero h = (both (list_all is_name l) (list_all (list_all is_name) ls) h).0
names-at (l ∷ ls) (suc e) h = names-at ls e (both (list_all is_name l) (list_all (list_all is_name) ls) h).1

value-plain : (labels : Labels) → list_all (list_all is_name) labels ≡ true → (k : Kind) (v : Value) → HasKind labels k v
    → is_plain_text (value_text labels k v) ≡ true
value-plain labels n kind.Bool (Flag true) h = refl
value-plain labels n kind.Bool (Flag false) h = refl
value-plain labels n kind.Bool (Label m) h = absurd h
value-plain labels n kind.Bool (Whole z) h = absurd h
value-plain labels n kind.Int (Flag b) h = absurd h
value-plain labels n kind.Int (Label m) h = absurd h
value-plain labels n kind.Int (Whole z) h = signed-plain z
value-plain labels n (kind.Labels e) (Flag b) h = absurd h
value-plain labels n (kind.Labels e) (Label m) h = name-plain (label_at labels e m) (name-at (get_or labels e []) m (names-at labels e n))
value-plain labels n (kind.Labels e) (Whole z) h = absurd h

-- ---- Single records.
pub pair-plain : (a b : List ℕ) → is_plain_text a ≡ true → is_plain_text b ≡ true → is_plain (a ∷ b ∷ []) ≡ true
pair-plain a b h k = ap (λ c. c && (is_plain_text b && true)) h ∙ ap (λ c. c && true) k

pub exactly-right : (x : Fields) → is_plain x ≡ true → Spells (exactly x) tt (x ∷ [])
exactly-right x h = right-spells (fixed x) (λ r. tt) x (record { plain = h; of_kind = same-row x x refl; of_program = refl; allowed = λ k l. refl })

two-kind : (w t : List ℕ) → (bytes_eq w w && nat_eq 2 2) ≡ true
two-kind w t = ap (λ b. b && nat_eq 2 2) (same-bytes w w refl)

pub names-right : (w t : List ℕ) → is_plain_text w ≡ true → is_plain_text t ≡ true → Spells (names w t) tt ((w ∷ t ∷ []) ∷ [])
names-right w t h k = right-spells (named w t) (λ r. tt) (w ∷ t ∷ []) (record
    { plain = pair-plain w t h k; of_kind = two-kind w t; of_program = same-bytes t t refl; allowed = λ k l. refl })

pub lists-right : (w : List ℕ) (ts : List (List ℕ)) → is_plain (w ∷ ts) ≡ true → Spells (lists w ts) tt ((w ∷ ts) ∷ [])
lists-right w ts h = right-spells (listed w ts) (λ r. tt) (w ∷ ts) (record
    { plain = h; of_kind = same-bytes w w refl; of_program = same-row (w ∷ ts) (w ∷ ts) refl; allowed = λ k l. refl })

pub counts-right : (w : List ℕ) (low high n : ℕ) → is_plain_text w ≡ true → low ≤ n → n ≤ high → high < 2 ^ 64
    → Spells (counts w low high) n ((w ∷ decimal n ∷ []) ∷ [])
counts-right w low high n p l h s =
    let small : n < 2 ^ 64 = omega arith in
    subst (λ m. Spells (counts w low high) m ((w ∷ decimal n ∷ []) ∷ [])) (natural-is (decimal n) n small refl)
    (right-spells (counted w low high) (λ r. natural (field r 1)) (w ∷ decimal n ∷ [])
    (record {
      plain = pair-plain w (decimal n) p (decimal-plain n);
      of_kind = two-kind w (decimal n);
      of_program = refl;
      allowed = allowed w low high n
          (within low high n (decimal n) small refl l h);
    }))
  where
    allowed : (w : List ℕ) (low high n : ℕ) → is_natural low high (decimal n) ≡ true → (k : ℕ) → k < 2
        → (nat_eq k 0 || is_natural low high (field (w ∷ decimal n ∷ []) k)) ≡ true
    allowed w low high n h zero l = refl
    allowed w low high n h (suc zero) l = h
    allowed w low high n h (suc (suc k)) l = absurd (omega arith)

value-read : (labels : Labels) (k : Kind) (t : List ℕ) (v : Value) → value_of labels k t ≡ Some v → read_value labels k t ≡ v
value-read labels k t v h = ap (λ o. unwrap_or o (Flag true)) h

value-is-one : (labels : Labels) (k : Kind) (t : List ℕ) (v : Value) → value_of labels k t ≡ Some v → is_value labels k t ≡ true
value-is-one labels k t v h = ap is_some h

listed-on : {A : Type 0} (p : Rule A) (q : Rule (List A)) (a : A) (rest : List A) (r : Fields) (v : List Fields) → Spells p a (r ∷ []) → Spells q rest v
    → Spells (more p q) (a ∷ rest) (r ∷ v)
listed-on p q a rest r v s t =
    parts-bind p (λ a. bind q (λ rest. done (a ∷ rest))) a (a ∷ rest) (r ∷ []) v s
    (subst (λ l. Spells (bind q (λ rest. done (a ∷ rest))) (a ∷ rest) l) (append-nil v)
    (parts-bind q (λ rest. done (a ∷ rest)) rest (a ∷ rest) v [] t (refl, refl)))

-- the texts of values of these types are plain, as many, and read as them
texts-length : (labels : Labels) (ks : List Kind) (vs : List Value) → HaveKinds labels ks vs → length (value_texts labels ks vs) ≡ length ks
texts-length labels [] [] h = refl
texts-length labels [] (v ∷ vs) h = absurd h
texts-length labels (k ∷ ks) [] h = absurd h
texts-length labels (k ∷ ks) (v ∷ vs) h = ap suc (texts-length labels ks vs h.1)

texts-plain : (labels : Labels) → list_all (list_all is_name) labels ≡ true → (ks : List Kind) (vs : List Value) → HaveKinds labels ks vs
    → is_plain (value_texts labels ks vs) ≡ true
texts-plain labels n [] [] h = refl
texts-plain labels n [] (v ∷ vs) h = absurd h
texts-plain labels n (k ∷ ks) [] h = absurd h
texts-plain labels n (k ∷ ks) (v ∷ vs) h = ap (λ b. b && is_plain (value_texts labels ks vs)) (value-plain labels n k v h.0) ∙ texts-plain labels n ks vs h.1

texts-back : (labels : Labels) → AllDifferent labels → (ks : List Kind) (vs : List Value) → HaveKinds labels ks vs
    → read_values labels ks (value_texts labels ks vs) ≡ vs
texts-back labels d [] [] h = refl
texts-back labels d [] (v ∷ vs) h = absurd h
texts-back labels d (k ∷ ks) [] h = absurd h
texts-back labels d (k ∷ ks) (v ∷ vs) h =
    ap (λ x. x ∷ read_values labels ks (value_texts labels ks vs)) (value-read labels k (value_text labels k v) v (value-back labels d k v h.0))
    ∙ ap (λ l. v ∷ l) (texts-back labels d ks vs h.1)

texts-allowed : (labels : Labels) → AllDifferent labels → (ks : List Kind) (vs : List Value) → HaveKinds labels ks vs → (i : ℕ) → i < length ks
    → is_value_at labels (slice_get ks i) (get_or (value_texts labels ks vs) i []) ≡ true
texts-allowed labels d [] vs h i l = absurd (omega arith)
texts-allowed labels d (k ∷ ks) [] h i l = absurd h
texts-allowed labels d (k ∷ ks) (v ∷ vs) h zero l = value-is-one labels k (value_text labels k v) v (value-back labels d k v h.0)
texts-allowed labels d (k ∷ ks) (v ∷ vs) h (suc i) l = texts-allowed labels d ks vs h.1 i (omega arith)

names-plain : (is : List FlatInput) → list_all (λ i. is_name i.name) is ≡ true → is_plain (map (λ i. i.name) is) ≡ true
names-plain [] h = refl
names-plain (i ∷ is) h = let p = both (is_name i.name) (list_all (λ i. is_name i.name) is) h in
    ap (λ b. b && is_plain (map (λ i. i.name) is)) (name-plain i.name p.0) ∙ names-plain is p.1

module _ (f : Flat) (told : IsTold f) where
  start-right : (m : FlatMemory) (v : Value) → HasKind f.labels m.kind v → Spells (start f.labels m) v (start_record f.labels m v ∷ [])
  start-right m v h =
      let back = value-back f.labels told.different m.kind v h in
      subst (λ x. Spells (start f.labels m) x (start_record f.labels m v ∷ [])) (value-read f.labels m.kind (value_text f.labels m.kind v) v back)
      (right-spells (started f.labels m) (λ r. read_value f.labels m.kind (field r 2)) (start_record f.labels m v)
      (record {
        plain = pair-plain (dotted m.place.sites) (value_text f.labels m.kind v) (dotted-plain m.place.sites) (value-plain f.labels told.labels m.kind v h);
        of_kind = refl;
        of_program = same-bytes (dotted m.place.sites) (dotted m.place.sites) refl;
        allowed = allowed m v (value-is-one f.labels m.kind (value_text f.labels m.kind v) v back);
      }))
    where
      allowed : (m : FlatMemory) (v : Value) → is_value f.labels m.kind (value_text f.labels m.kind v) ≡ true → (k : ℕ) → k < 3
          → (nat_lt k 2 || is_value f.labels m.kind (field (start_record f.labels m v) k)) ≡ true
      allowed m v h zero l = refl
      allowed m v h (suc zero) l = refl
      allowed m v h (suc (suc zero)) l = h
      allowed m v h (suc (suc (suc k))) l = absurd (omega arith)

  starts-right : (ms : List FlatMemory) (vs : List Value) → HaveKinds f.labels (map (λ m. m.kind) ms) vs
      → Spells (each (start f.labels) ms) vs (start_records f.labels ms vs)
  starts-right [] [] h = subst (λ p. Spells p [] []) (sym (each_none (start f.labels))) (refl, refl)
  starts-right [] (v ∷ vs) h = absurd h
  starts-right (m ∷ ms) [] h = absurd h
  starts-right (m ∷ ms) (v ∷ vs) h =
      subst (λ r. Spells r (v ∷ vs) (start_records f.labels (m ∷ ms) (v ∷ vs))) (sym (each_more (start f.labels) m ms))
      (listed-on (start f.labels m) (each (start f.labels) ms) v vs (start_record f.labels m v) (start_records f.labels ms vs) (start-right m v h.0)
      (starts-right ms vs h.1))

  instant-right : (vs : List Value) → HaveKinds f.labels (input_kinds f) vs → Spells (instant f) vs (instant_record f vs ∷ [])
  instant-right vs h =
      let n : length (value_texts f.labels (input_kinds f) vs) ≡ length f.inputs = texts-length f.labels (input_kinds f) vs h
      ∙ length-map f.inputs (λ i. i.kind) in
      subst (λ x. Spells (instant f) x (instant_record f vs ∷ [])) (texts-back f.labels told.different (input_kinds f) vs h)
      (right-spells (given f) (λ r. read_values f.labels (input_kinds f) (tail_of r)) (instant_record f vs)
      (record {
        plain = texts-plain f.labels told.labels (input_kinds f) vs h;
        of_kind = eq-eqb (length (instant_record f vs)) (length f.inputs + 1) (omega (arith, n));
        of_program = refl;
        allowed = allowed vs h n;
      }))
    where
      back : (k : ℕ) → suc k - 1 ≡ k
      back k = omega arith

      allowed : (vs : List Value) → HaveKinds f.labels (input_kinds f) vs → length (value_texts f.labels (input_kinds f) vs) ≡ length f.inputs → (k : ℕ)
          → k < length (instant_record f vs) → (given f).allows (instant_record f vs) k ≡ true
      allowed vs h n zero l = refl
      allowed vs h n (suc k) l =
          ap (λ b. b || is_value_at f.labels (slice_get (input_kinds f) (suc k - 1)) (field (instant_record f vs) (suc k))) (eqb-suc-zero k)
          ∙ ap (λ j. is_value_at f.labels (slice_get (input_kinds f) j) (field (instant_record f vs) (suc k))) (back k)
          ∙ texts-allowed f.labels told.different (input_kinds f) vs h k (omega (arith, n, length-map f.inputs (λ (i : FlatInput). i.kind)))

  instants-right : (vss : List (List Value)) → AllByRecursion (HaveKinds f.labels (input_kinds f)) vss
      → Spells (times (length vss) (instant f)) vss (map (instant_record f) vss)
  instants-right [] h = subst (λ p. Spells p [] []) (sym (times_none (instant f))) (refl, refl)
  instants-right (vs ∷ vss) h =
      subst (λ r. Spells r (vs ∷ vss) (map (instant_record f) (vs ∷ vss))) (sym (times_more (length vss) (instant f)))
      (listed-on (instant f) (times (length vss) (instant f)) vs vss (instant_record f vs) (map (instant_record f) vss) (instant-right vs h.0)
      (instants-right vss h.1))

  end-right : (t : Trace) → Fits f t → Spells (trace_end f t.starts) t
      ((codes "inputs" ∷ map (λ i. i.name) f.inputs) ∷ (codes "instants" ∷ decimal (length t.instants) ∷ [])
      ∷ (map (instant_record f) t.instants ++ last_record ∷ []))
  end-right t h =
      let k4 = λ (u : ⊤). done (record { starts = t.starts; instants = t.instants }) in
      let k3 = λ (instants : List (List Value)). bind (exactly last_record) (λ b. done (record { starts = t.starts; instants = instants })) in
      let k2 = λ (n : ℕ). bind (times n (instant f)) k3 in
      let k1 = λ (a : ⊤). bind (counts (codes "instants") 0 4294967295) k2 in
      let r3 : List Fields = map (instant_record f) t.instants ++ last_record ∷ [] in
      let r2 : List Fields = (codes "instants" ∷ decimal (length t.instants) ∷ []) ∷ r3 in
      parts-bind (lists (codes "inputs") (map (λ i. i.name) f.inputs)) k1 tt t ((codes "inputs" ∷ map (λ i. i.name) f.inputs) ∷ []) r2
      (lists-right (codes "inputs") (map (λ i. i.name) f.inputs) (names-plain f.inputs told.inputs))
      (parts-bind (counts (codes "instants") 0 4294967295) k2 (length t.instants) t ((codes "instants" ∷ decimal (length t.instants) ∷ []) ∷ []) r3
      (counts-right (codes "instants") 0 4294967295 (length t.instants) refl (omega arith) h.count (omega arith))
      (parts-bind (times (length t.instants) (instant f)) k3 t.instants t (map (instant_record f) t.instants) (last_record ∷ [])
      (instants-right t.instants h.instants)
      (parts-bind (exactly last_record) k4 tt t (last_record ∷ []) [] (exactly-right last_record refl) (refl, refl))))

  pub trace-document : (t : Trace) → Fits f t → IsDocument (trace_rule f) (trace_records f t) t
  trace-document t h =
      let k3 = λ (c : ℕ). bind (each (start f.labels) f.memories) (trace_end f) in
      let k2 = λ (b : ⊤). bind (counts (codes "starts") (length f.memories) (length f.memories)) k3 in
      let k1 = λ (a : ⊤). bind (names (codes "main") f.main) k2 in
      let r4 : List Fields = (codes "inputs" ∷ map (λ i. i.name) f.inputs) ∷ (codes "instants" ∷ decimal (length t.instants) ∷ [])
      ∷ (map (instant_record f) t.instants ++ last_record ∷ []) in
      let r3 : List Fields = start_records f.labels f.memories t.starts ++ r4 in
      let r2 : List Fields = (codes "starts" ∷ decimal (length f.memories) ∷ []) ∷ r3 in
      let r1 : List Fields = (codes "main" ∷ f.main ∷ []) ∷ r2 in
      spells-document (trace_rule f) t (trace_records f t)
      (parts-bind (exactly first_record) k1 tt t (first_record ∷ []) r1 (exactly-right first_record refl)
      (parts-bind (names (codes "main") f.main) k2 tt t ((codes "main" ∷ f.main ∷ []) ∷ []) r2
      (names-right (codes "main") f.main refl (name-plain f.main told.main))
      (parts-bind (counts (codes "starts") (length f.memories) (length f.memories)) k3 (length f.memories) t
      ((codes "starts" ∷ decimal (length f.memories) ∷ []) ∷ []) r3
      (counts-right (codes "starts") (length f.memories) (length f.memories) (length f.memories) refl (omega arith) (omega arith)
      (omega (arith, told.few_memories)))
      (parts-bind (each (start f.labels) f.memories) (trace_end f) t.starts t (start_records f.labels f.memories t.starts) r4
      (starts-right f.memories t.starts h.starts) (end-right t h)))))

  -- ---- The rule of traces is alive.
  start-alive : (m : FlatMemory) → ((v : Value) × HasKind f.labels m.kind v) → IsAlive (start f.labels m)
  start-alive m v = let s = start-right m v.0 v.1 in ((start_record f.labels m v.0, s.0), λ r e. tt)

  starts-alive : (ms : List FlatMemory) → ((m : FlatMemory) → IsIn m ms → (v : Value) × HasKind f.labels m.kind v) → IsAlive (each (start f.labels) ms)
  starts-alive [] h = subst IsAlive (sym (each_none (start f.labels))) tt
  starts-alive (m ∷ ms) h =
      subst IsAlive (sym (each_more (start f.labels) m ms))
      (alive-bind (start f.labels m) (λ a. bind (each (start f.labels) ms) (λ more. done (a ∷ more))) (start-alive m (h m (inl refl)))
      (λ a. alive-bind (each (start f.labels) ms) (λ more. done (a ∷ more)) (starts-alive ms (λ x i. h x (inr i))) (λ more. tt)))

  some-values : (is : List FlatInput) → ((i : FlatInput) → IsIn i is → (v : Value) × HasKind f.labels i.kind v)
      → (vs : List Value) × HaveKinds f.labels (map (λ i. i.kind) is) vs
  some-values [] h = ([], tt)
  some-values (i ∷ is) h = let v = h i (inl refl) in let vs = some-values is (λ x k. h x (inr k)) in (v.0 ∷ vs.0, (v.1, vs.1))

  pub trace-alive : HasValues f → IsAlive (trace_rule f)
  trace-alive has =
      let vs = some-values f.inputs has.inputs in
      let one = instant-right vs.0 vs.1 in
      let instants : IsAlive (instant f) = ((instant_record f vs.0, one.0), λ r e. tt) in
      let k5 = λ (starts : List Value) (instants : List (List Value)). bind (exactly last_record) (λ b. done (record { starts = starts; instants = instants }))
      in
      let last = exactly-right last_record refl in
      let end-alive : IsAlive (exactly last_record) = ((last_record, last.0), λ r e. tt) in
      let ins = lists-right (codes "inputs") (map (λ i. i.name) f.inputs) (names-plain f.inputs told.inputs) in
      let cnt = counts-right (codes "instants") 0 4294967295 0 refl (omega arith) (omega arith) (omega arith) in
      let head = exactly-right first_record refl in
      let name = names-right (codes "main") f.main refl (name-plain f.main told.main) in
      let num = counts-right (codes "starts") (length f.memories) (length f.memories) (length f.memories) refl (omega arith) (omega arith)
      (omega (arith, told.few_memories)) in
      alive-bind (exactly first_record) (λ a. bind (names (codes "main") f.main)
      (λ b. bind (counts (codes "starts") (length f.memories) (length f.memories)) (λ c. bind (each (start f.labels) f.memories) (trace_end f))))
      ((first_record, head.0), λ r e. tt)
      (λ a. alive-bind (names (codes "main") f.main) (λ b. bind (counts (codes "starts") (length f.memories) (length f.memories))
      (λ c. bind (each (start f.labels) f.memories) (trace_end f))) (((codes "main" ∷ f.main ∷ []), name.0), λ r e. tt)
      (λ b. alive-bind (counts (codes "starts") (length f.memories) (length f.memories)) (λ c. bind (each (start f.labels) f.memories) (trace_end f))
      (((codes "starts" ∷ decimal (length f.memories) ∷ []), num.0), λ r e. tt)
      (λ c. alive-bind (each (start f.labels) f.memories) (trace_end f) (starts-alive f.memories has.starts)
      (λ starts. alive-bind (lists (codes "inputs") (map (λ i. i.name) f.inputs))
      (λ a. bind (counts (codes "instants") 0 4294967295) (λ n. bind (times n (instant f)) (k5 starts)))
      (((codes "inputs" ∷ map (λ i. i.name) f.inputs), ins.0), λ r e. tt)
      (λ a. alive-bind (counts (codes "instants") 0 4294967295) (λ n. bind (times n (instant f)) (k5 starts))
      (((codes "instants" ∷ decimal 0 ∷ []), cnt.0), λ r e. tt)
      (λ n. alive-bind (times n (instant f)) (k5 starts) (alive-times n (instant f) instants)
      (λ instants. alive-bind {B = Trace} (exactly last_record) (λ b. done (record { starts = starts; instants = instants })) end-alive (λ b. tt))))))))
