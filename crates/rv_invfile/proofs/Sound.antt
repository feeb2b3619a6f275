-- The texts of a trace have no byte that a writer of records sets apart, so each record is written as its line.
use Rattle.std.proofs.Common.{◌≡◌, ◌+◌, ◌<◌, ℕ, zero, suc, Bool, true, false, List, [], ◌∷◌, ◌++◌, length, map, get_or, refl, ap, ◌∙◌, subst, arith}
use Rattle.std.proofs.{lemmas.Bool.le-leb, lemmas.Bool.ne_eqb, lemmas.Bool.Decides.nat_tests}
use Rattle.std.specs.Prelude.{◌&&◌, ◌||◌, ◌==◌, ⊤, ℤ, nat_le, nat_eq, decimal, codes, if◌then◌else◌}
use Rattle.std.specs.{List.list_all, List.list_any, Fmt.signed_decimal}
use Rattle.csv.specs.Reading.{strip_bom}
use Rattle.csv.specs.Writing.{default_writer, field_text, fields_text, is_blank, needs_byte, by_style, quoted, row_text}
use Rattle.csv.specs.declared.writer.QuoteStyle.TheVariants as style
use Rattle.csv.proofs.RoundTrip.{rows_text}
use Rattle.rv_base.specs.declared.value.Value.TheVariants.{Flag, Label, Whole}
use Rattle.rv_base.specs.{declared.value.Value.Value, declared.value.Trace.Trace}
use Rattle.rv_types.specs.declared.typed.Kind.{Kind}
use Rattle.rv_types.specs.declared.typed.Kind.TheVariants as kind
use Rattle.rv_flat.specs.{declared.flat.Flat.Flat, declared.parts.FlatInput.FlatInput, declared.parts.FlatMemory.FlatMemory}
use Rattle.rv_invfile.specs.Traces.{first_record, last_record, start_records, value_texts, input_kinds, instant_record, trace_records}
use Rattle.rv_invfile.specs.{Csv.records_of, Rules.Fields, Texts.Labels, Texts.dotted, Texts.label_at, Texts.value_text, Told.IsTold, Writes.line, Writes.lines}
use Rattle.rv_invfile.specs.{Writes.more_fields, Writes.wide}
use Rattle.rv_tree.specs.Words.{is_name_byte, is_name}
use Rattle.rv_invfile.proofs.{Digits.decimal-all, Digits.dotted-all, Digits.signed-all, Lines.HaveFields, Lines.wide-rows, Lines.written-read}
use Rattle.rv_base.proofs.Truths.{both_of}

-- letters, digits, `_`, and the signs of numbers and places
abbrev pub is_sound : ℕ → Bool
is_sound b = is_name_byte b || nat_eq b 45 || nat_eq b 46

abbrev pub is_sound_text : List ℕ → Bool
is_sound_text text = list_all is_sound text

-- ---- The texts.
pub name-sound : (text : List ℕ) → is_name text ≡ true → is_sound_text text ≡ true
name-sound [] h = refl
name-sound (b ∷ bs) h =
    let p = both_of (is_name_byte b) (is_name bs) h in
    ap (λ c. (c || nat_eq b 45 || nat_eq b 46) && is_sound_text bs) p.0 ∙ name-sound bs p.1

byte-sound : (d : ℕ) → d < 10 → is_sound (48 + d) ≡ true
byte-sound d h =
    let low : nat_le 48 (48 + d) ≡ true = le-leb 48 (48 + d) (omega arith) in
    let high : nat_le (48 + d) 57 ≡ true = le-leb (48 + d) 57 (omega arith) in
    ap (λ a. (a && nat_le (48 + d) 57) || (nat_le 65 (48 + d) && nat_le (48 + d) 90) || nat_eq (48 + d) 95 || (nat_le 97 (48 + d) && nat_le (48 + d) 122) ||
    nat_eq (48 + d) 45 || nat_eq (48 + d) 46) low
    ∙ ap (λ a. (true && a) || (nat_le 65 (48 + d) && nat_le (48 + d) 90) || nat_eq (48 + d) 95 || (nat_le 97 (48 + d) && nat_le (48 + d) 122) || nat_eq
    (48 + d) 45 || nat_eq (48 + d) 46) high

pub decimal-sound : (n : ℕ) → is_sound_text (decimal n) ≡ true
decimal-sound = decimal-all is_sound byte-sound

pub dotted-sound : (sites : List ℕ) → is_sound_text (dotted sites) ≡ true
dotted-sound = dotted-all is_sound byte-sound refl

pub signed-sound : (z : ℤ) → is_sound_text (signed_decimal z) ≡ true
signed-sound = signed-all is_sound byte-sound refl

name-at : (ls : List (List ℕ)) (n : ℕ) → list_all is_name ls ≡ true → is_sound_text (get_or ls n []) ≡ true
name-at [] n h = refl
name-at (l ∷ ls) zero h = name-sound l (both_of (is_name l) (list_all is_name ls) h).0
name-at (l ∷ ls) (suc n) h = name-at ls n (both_of (is_name l) (list_all is_name ls) h).1

label-sound : (labels : Labels) (e n : ℕ) → list_all (list_all is_name) labels ≡ true → is_sound_text (label_at labels e n) ≡ true
label-sound [] e n h = refl
label-sound (l ∷ ls) zero n h = name-at l n (both_of (list_all is_name l) (list_all (list_all is_name) ls) h).0
label-sound (l ∷ ls) (suc e) n h = label-sound ls e n (both_of (list_all is_name l) (list_all (list_all is_name) ls) h).1

value-sound : (labels : Labels) → list_all (list_all is_name) labels ≡ true → (k : Kind) (v : Value) → is_sound_text (value_text labels k v) ≡ true
value-sound labels n k (Flag true) = refl
value-sound labels n k (Flag false) = refl
value-sound labels n k (Whole z) = signed-sound z
value-sound labels n kind.Bool (Label m) = refl
value-sound labels n kind.Int (Label m) = refl
value-sound labels n (kind.Labels e) (Label m) = label-sound labels e m n

-- ---- The records.
-- a record whose first field is not empty, and whose bytes are all such
abbrev pub IsLine : Fields → Type 0
IsLine [] = ⊥
IsLine (f ∷ fs) = (0 < length f) × (list_all is_sound_text (f ∷ fs) ≡ true)

abbrev pub AreLines : List Fields → Type 0
AreLines [] = ⊤
AreLines (r ∷ rs) = IsLine r × AreLines rs

lines-joined : (a b : List Fields) → AreLines a → AreLines b → AreLines (a ++ b)
lines-joined [] b h k = k
lines-joined (r ∷ a) b h k = (h.0, lines-joined a b h.1 k)

one-text : (x : List ℕ) → is_sound_text x ≡ true → list_all is_sound_text (x ∷ []) ≡ true
one-text x h = ap (λ c. c && true) h

two-texts : (x y : List ℕ) → is_sound_text x ≡ true → is_sound_text y ≡ true → list_all is_sound_text (x ∷ y ∷ []) ≡ true
two-texts x y h k = ap (λ c. c && (is_sound_text y && true)) h ∙ ap (λ c. c && true) k

inputs-sound : (is : List FlatInput) → list_all (λ i. is_name i.name) is ≡ true → list_all is_sound_text (map (λ i. i.name) is) ≡ true
inputs-sound [] h = refl
inputs-sound (i ∷ is) h =
    let p = both_of (is_name i.name) (list_all (λ (i : FlatInput). is_name i.name) is) h in
    ap (λ c. c && list_all is_sound_text (map (λ (i : FlatInput). i.name) is)) (name-sound i.name p.0) ∙ inputs-sound is p.1

texts-sound : (labels : Labels) → list_all (list_all is_name) labels ≡ true → (ks : List Kind) (vs : List Value)
    → list_all is_sound_text (value_texts labels ks vs) ≡ true
texts-sound labels n [] vs = refl
texts-sound labels n (k ∷ ks) [] = refl
texts-sound labels n (k ∷ ks) (v ∷ vs) = ap (λ c. c && list_all is_sound_text (value_texts labels ks vs)) (value-sound labels n k v)
    ∙ texts-sound labels n ks vs

starts-lines : (labels : Labels) → list_all (list_all is_name) labels ≡ true → (ms : List FlatMemory) (vs : List Value) → AreLines (start_records labels ms vs)
starts-lines labels n [] vs = tt
starts-lines labels n (m ∷ ms) [] = tt
starts-lines labels n (m ∷ ms) (v ∷ vs) = (
  (omega arith, two-texts (dotted m.place.sites) (value_text labels m.kind v) (dotted-sound m.place.sites) (value-sound labels n m.kind v)),
  starts-lines labels n ms vs,
)

instants-lines : (f : Flat) → list_all (list_all is_name) f.labels ≡ true → (vss : List (List Value)) → AreLines (map (instant_record f) vss)
instants-lines f n [] = tt
instants-lines f n (vs ∷ vss) = ((omega arith, texts-sound f.labels n (input_kinds f) vs), instants-lines f n vss)

trace-lines : (f : Flat) (t : Trace) → IsTold f → AreLines (trace_records f t)
trace-lines f t told =
    let last : AreLines (last_record ∷ []) = ((omega arith, refl), tt) in
    let back = lines-joined (map (instant_record f) t.instants) (last_record ∷ []) (instants-lines f told.labels t.instants) last in
    let count : IsLine (codes "instants" ∷ decimal (length t.instants) ∷ [])
    = (omega arith, one-text (decimal (length t.instants)) (decimal-sound (length t.instants))) in
    let inputs : IsLine (codes "inputs" ∷ map (λ (i : FlatInput). i.name) f.inputs) = (omega arith, inputs-sound f.inputs told.inputs) in
    let starts : IsLine (codes "starts" ∷ decimal (length f.memories) ∷ [])
    = (omega arith, one-text (decimal (length f.memories)) (decimal-sound (length f.memories))) in
    let main : IsLine (codes "main" ∷ f.main ∷ []) = (omega arith, one-text f.main (name-sound f.main told.main)) in
    let head : IsLine first_record = (omega arith, refl) in (
      head,
      (
        main,
        (
          starts,
          lines-joined (start_records f.labels f.memories t.starts) ((codes "inputs" ∷ map (λ (i : FlatInput). i.name) f.inputs)
              ∷ (codes "instants" ∷ decimal (length t.instants) ∷ []) ∷ (map (instant_record f) t.instants ++ last_record ∷ []))
              (starts-lines f.labels told.labels f.memories t.starts) (inputs, (count, back)),
        ),
      ),
    )

-- ---- How they are written.
sound-needs : (b : ℕ) → is_sound b ≡ true → needs_byte default_writer b ≡ false
sound-needs b h = grind (arith, nat_tests)

pub sound-quiet : (f : List ℕ) → is_sound_text f ≡ true → list_any (needs_byte default_writer) f ≡ false
sound-quiet [] h = refl
sound-quiet (b ∷ bs) h =
    let p = both_of (is_sound b) (is_sound_text bs) h in
    ap (λ c. c || list_any (needs_byte default_writer) bs) (sound-needs b p.0) ∙ sound-quiet bs p.1

field-same : (f : List ℕ) → is_sound_text f ≡ true → field_text default_writer f ≡ f
field-same f h = ap (λ b. if by_style style.Necessary b then quoted default_writer f else f) (sound-quiet f h)

fields-same : (fs : List (List ℕ)) → list_all is_sound_text fs ≡ true → fields_text default_writer fs ≡ more_fields fs
unfolding fields_text
fields-same [] h = refl
fields-same (f ∷ fs) h =
    let p = both_of (is_sound_text f) (list_all is_sound_text fs) h in
    ap (λ l. 44 ∷ (l ++ fields_text default_writer fs)) (field-same f p.0) ∙ ap (λ l. 44 ∷ (f ++ l)) (fields-same fs p.1)

pub not-blank : (f : List ℕ) (fs : List (List ℕ)) → 0 < length f → field_text default_writer f ≡ f → is_blank default_writer (f ∷ fs) ≡ false
unfolding is_blank
not-blank f [] l e = ap (λ x. length x == 0) e ∙ ne_eqb (length f) 0 (λ z. omega (arith, z))
not-blank f (g ∷ gs) l e = refl

row-line : (r : Fields) → IsLine r → row_text default_writer r ≡ line r
row-line [] h = absurd h
row-line (f ∷ fs) h =
    let p = both_of (is_sound_text f) (list_all is_sound_text fs) h.1 in
    let same = field-same f p.0 in
    ap (λ b. (field_text default_writer f ++ fields_text default_writer fs) ++ ((if b then 34 ∷ 34 ∷ [] else []) ++ (10 ∷ []))) (not-blank f fs h.0 same)
    ∙ ap (λ l. (l ++ fields_text default_writer fs) ++ (10 ∷ [])) same
    ∙ ap (λ l. (f ++ l) ++ (10 ∷ [])) (fields-same fs p.1)

rows-lines : (rs : List Fields) → AreLines rs → rows_text rs ≡ lines rs
unfolding rows_text
rows-lines [] h = refl
rows-lines (r ∷ rs) h = ap (λ l. l ++ rows_text rs) (row-line r h.0) ∙ ap (λ l. line r ++ l) (rows-lines rs h.1)

have-fields : (rs : List Fields) → AreLines rs → HaveFields rs
have-fields [] h = tt
have-fields ([] ∷ rs) h = absurd h.0
have-fields ((f ∷ fs) ∷ rs) h = (omega arith, have-fields rs h.1)

lines-read : (rs : List Fields) → AreLines rs → strip_bom (lines rs) ≡ lines rs → records_of (lines rs) ≡ rs
lines-read rs h b =
    let same = rows-lines rs h in
    subst (λ t. strip_bom t ≡ t → records_of t ≡ rs) same (written-read rs (have-fields rs h)) b

-- no byte order mark begins a trace
no-mark : (rs : List Fields) → strip_bom (lines (first_record ∷ rs)) ≡ lines (first_record ∷ rs)
unfolding strip_bom
no-mark rs = refl

-- The records of a trace are written as their lines, and these are read as them.
pub trace-wide : (f : Flat) (t : Trace) → IsTold f → wide (trace_records f t) ≡ lines (trace_records f t)
trace-wide f t told = wide-rows (trace_records f t) ∙ rows-lines (trace_records f t) (trace-lines f t told)

pub trace-read : (f : Flat) (t : Trace) → IsTold f → records_of (lines (trace_records f t)) ≡ trace_records f t
trace-read f t told = lines-read (trace_records f t) (trace-lines f t told) (no-mark (others f t))
  where
    others : Flat → Trace → List Fields
    others f t = (codes "main" ∷ f.main ∷ []) ∷ (codes "starts" ∷ decimal (length f.memories) ∷ [])
        ∷ (start_records f.labels f.memories t.starts ++ (codes "inputs" ∷ map (λ i. i.name) f.inputs) ∷ (codes "instants" ∷ decimal (length t.instants) ∷ [])
        ∷ (map (instant_record f) t.instants ++ last_record ∷ []))
