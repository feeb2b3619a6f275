-- The texts of a certificate have no byte that a writer of records sets apart, so each record is written as its line.
use Rattle.std.proofs.Common.{◌≡◌, ◌<◌, ℕ, zero, suc, true, false, List, [], ◌∷◌, ◌++◌, length, map, refl, ap, ◌∙◌, arith}
use Rattle.std.proofs.lemmas.List.Folds.{list_any-append}
use Rattle.std.specs.Prelude.{◌||◌, ⊤, ℤ, codes, decimal, flat_map, if◌then◌else◌}
use Rattle.std.specs.{Fmt.signed_decimal, List.list_all, List.list_any}
use Rattle.csv.specs.Writing.{default_writer, field_text, fields_text, needs_byte, by_style, quoted, row_text}
use Rattle.csv.specs.declared.writer.QuoteStyle.TheVariants as style
use Rattle.csv.proofs.RoundTrip.{rows_text}
use Rattle.rv_flat.specs.{declared.flat.Flat.Flat, declared.parts.Bit.Bit, declared.parts.Column.Column, declared.parts.FlatInput.FlatInput}
use Rattle.rv_flat.specs.declared.parts.Bit.TheVariants as bit
use Rattle.rv_flat.specs.declared.parts.Column.TheVariants as column
use Rattle.rv_flat.specs.declared.parts.Side.TheVariants as side
use Rattle.rv_tree.specs.Words.{is_name}
use Rattle.rv_rows.specs.{declared.linear.Row.Row, declared.farkas.Weight.Weight, declared.farkas.Multipliers.Multipliers}
use Rattle.rv_diagram.specs.{declared.Triple.Triple, declared.frozen.Frozen.Frozen}
use Rattle.rv_proofs.specs.declared.certificate.EntryKind.TheVariants.{Dead, Go, Loop}
use Rattle.rv_proofs.specs.{declared.certificate.Certificate.Certificate, declared.certificate.Location.Location, declared.certificate.EntryKind.EntryKind}
use Rattle.rv_invfile.specs.{Rules.Fields, Texts.dotted, Told.IsTold, Writes.line, Writes.lines, Writes.more_fields, Writes.wide}
use Rattle.rv_invfile.proofs.Lines.{wide-rows}
use Rattle.rv_invfile.proofs.Sound.{name-sound, decimal-sound, dotted-sound, signed-sound, sound-quiet, not-blank}
use Rattle.rv_invariant.specs.Naming.{name_at, bit_text, column_text, bit_texts, column_texts}
use Rattle.rv_invariant.specs.Pieces.{triple_texts, diagram_record, weight_texts, by_record, list_records, row_record}
use Rattle.rv_invariant.specs.Certificates.{last_record, kind_records, entry_records, cases_records, location_records, body_records}
use Rattle.rv_invariant.specs.Certificates.{certificate_records}
use Rattle.rv_base.proofs.Truths.{both_of}

-- no byte of the text is set apart
abbrev pub IsQuiet : List ℕ → Type 0
IsQuiet text = list_any (needs_byte default_writer) text ≡ false

abbrev pub AreQuiet : Fields → Type 0
AreQuiet [] = ⊤
AreQuiet (f ∷ fs) = IsQuiet f × AreQuiet fs

-- ---- The texts.
joined-quiet : (x y : List ℕ) → IsQuiet x → IsQuiet y → IsQuiet (x ++ y)
joined-quiet x y h k = list_any-append (needs_byte default_writer) x y ∙ ap (λ c. c || list_any (needs_byte default_writer) y) h ∙ k

name-quiet : (text : List ℕ) → is_name text ≡ true → IsQuiet text
name-quiet text h = sound-quiet text (name-sound text h)

pub number-quiet : (n : ℕ) → IsQuiet (decimal n)
number-quiet n = sound-quiet (decimal n) (decimal-sound n)

whole-quiet : (z : ℤ) → IsQuiet (signed_decimal z)
whole-quiet z = sound-quiet (signed_decimal z) (signed-sound z)

place-quiet : (sites : List ℕ) → IsQuiet (dotted sites)
place-quiet sites = sound-quiet (dotted sites) (dotted-sound sites)

input-quiet : (is : List FlatInput) (j : ℕ) → list_all (λ i. is_name i.name) is ≡ true → IsQuiet (name_at is j)
input-quiet [] j h = refl
input-quiet (i ∷ is) zero h = name-quiet i.name (both_of (is_name i.name) (list_all (λ (i : FlatInput). is_name i.name) is) h).0
input-quiet (i ∷ is) (suc j) h = input-quiet is j (both_of (is_name i.name) (list_all (λ (i : FlatInput). is_name i.name) is) h).1

-- a text, a colon and a text
colon-quiet : (x y : List ℕ) → IsQuiet x → IsQuiet y → IsQuiet (x ++ (codes ":" ++ y))
colon-quiet x y h k = joined-quiet x (codes ":" ++ y) h k

bit-quiet : (is : List FlatInput) → list_all (λ i. is_name i.name) is ≡ true → (b : Bit) → IsQuiet (bit_text is b)
bit-quiet is h (bit.Tick p) = place-quiet p.sites
bit-quiet is h (bit.Kept p b) = colon-quiet (dotted p.sites) (decimal b) (place-quiet p.sites) (number-quiet b)
bit-quiet is h (bit.Input j b) = colon-quiet (name_at is j) (decimal b) (input-quiet is j h) (number-quiet b)
bit-quiet is h (bit.Test p side.AtMost) = colon-quiet (dotted p.sites) (codes "le") (place-quiet p.sites) refl
bit-quiet is h (bit.Test p side.AtLeast) = colon-quiet (dotted p.sites) (codes "ge") (place-quiet p.sites) refl
bit-quiet is h _ = refl

column-quiet : (is : List FlatInput) → list_all (λ i. is_name i.name) is ≡ true → (c : Column) → IsQuiet (column_text is c)
column-quiet is h (column.Kept p) = place-quiet p.sites
column-quiet is h (column.Input j) = input-quiet is j h

pub mapped-quiet : {A : Type 0} (text : A → List ℕ) → ((a : A) → IsQuiet (text a)) → (xs : List A) → AreQuiet (map text xs)
mapped-quiet text h [] = tt
mapped-quiet text h (x ∷ xs) = (h x, mapped-quiet text h xs)

nodes-quiet : (ts : List Triple) → AreQuiet (flat_map triple_texts ts)
nodes-quiet [] = tt
nodes-quiet (t ∷ ts) = (number-quiet t.var, (number-quiet t.lo, (number-quiet t.hi, nodes-quiet ts)))

weights-quiet : (ws : List Weight) → AreQuiet (flat_map weight_texts ws)
weights-quiet [] = tt
weights-quiet (w ∷ ws) = (number-quiet w.premise, (whole-quiet w.by, weights-quiet ws))

-- ---- The records.
-- a record whose first field is not empty, and whose texts are all such
abbrev pub IsClear : Fields → Type 0
IsClear [] = ⊥
IsClear (f ∷ fs) = (0 < length f) × AreQuiet (f ∷ fs)

abbrev pub AreClear : List Fields → Type 0
AreClear [] = ⊤
AreClear (r ∷ rs) = IsClear r × AreClear rs

joined-clear : (a b : List Fields) → AreClear a → AreClear b → AreClear (a ++ b)
joined-clear [] b h k = k
joined-clear (r ∷ a) b h k = (h.0, joined-clear a b h.1 k)

mapped-clear : {A : Type 0} (record_of : A → Fields) → ((a : A) → IsClear (record_of a)) → (xs : List A) → AreClear (map record_of xs)
mapped-clear record_of h [] = tt
mapped-clear record_of h (x ∷ xs) = (h x, mapped-clear record_of h xs)

flat-clear : {A : Type 0} (records : A → List Fields) → ((a : A) → AreClear (records a)) → (xs : List A) → AreClear (flat_map records xs)
flat-clear records h [] = tt
flat-clear records h (x ∷ xs) = joined-clear (records x) (flat_map records xs) (h x) (flat-clear records h xs)

-- a word and a number
pub count-clear : (word : List ℕ) → 0 < length word → IsQuiet word → (n : ℕ) → IsClear (word ∷ decimal n ∷ [])
count-clear word l h n = (l, (h, (number-quiet n, tt)))

diagram-clear : (word : List ℕ) → 0 < length word → IsQuiet word → (d : Frozen) → IsClear (diagram_record word d)
diagram-clear word l h d = (l, (h, (number-quiet d.root, nodes-quiet d.nodes)))

row-clear : (r : Row) → IsClear (row_record r)
row-clear r = (omega arith, (refl, (whole-quiet r.bound, mapped-quiet signed_decimal whole-quiet r.coefficients)))

by-clear : (m : Multipliers) → IsClear (by_record m)
by-clear m = (omega arith, (refl, (whole-quiet m.divisor, weights-quiet m.weights)))

proofs-clear : (ms : List Multipliers) → AreClear (map by_record ms)
proofs-clear ms = mapped-clear by_record by-clear ms

list-clear : (word : List ℕ) → 0 < length word → IsQuiet word → (rows : List Row) → AreClear (list_records word rows)
list-clear word l h rows = (count-clear word l h (length rows), mapped-clear row_record row-clear rows)

when-clear : (when : Frozen) → IsClear (diagram_record (codes "when") when)
when-clear when = diagram-clear (codes "when") (omega arith) refl when

kind-clear : (when : Frozen) (k : EntryKind) → AreClear (kind_records when k)
kind-clear when (Dead by) = ((omega arith, (refl, tt)), (when-clear when, (by-clear by, tt)))
kind-clear when (Go target reach) = (count-clear (codes "go") (omega arith) refl target, (when-clear when, proofs-clear reach))
kind-clear when (Loop first before around state) = (
  (omega arith, (refl, tt)),
  (
    when-clear when,
    joined-clear (map by_record first) (map by_record before ++ (map by_record around ++ map by_record state)) (proofs-clear first)
        (joined-clear (map by_record before) (map by_record around ++ map by_record state) (proofs-clear before)
        (joined-clear (map by_record around) (map by_record state) (proofs-clear around) (proofs-clear state))),
  ),
)

location-clear : (l : Location) → AreClear (location_records l)
location-clear l =
    let cases : AreClear (cases_records l.entries) = (
      count-clear (codes "cases") (omega arith) refl (length l.entries),
      flat-clear entry_records
          (λ e. kind-clear e.condition e.kind) l.entries,
    ) in
    let by_first = joined-clear (map by_record l.by_first) (cases_records l.entries) (proofs-clear l.by_first) cases in
    let r0 = map by_record l.by_first ++ cases_records l.entries in
    let by_entry = joined-clear (map by_record l.by_entry) r0 (proofs-clear l.by_entry) by_first in
    let r1 = map by_record l.by_entry ++ r0 in
    let state = joined-clear (list_records (codes "state") l.state) r1 (list-clear (codes "state") (omega arith) refl l.state) by_entry in
    let r2 = list_records (codes "state") l.state ++ r1 in
    let around = joined-clear (list_records (codes "around") l.around) r2 (list-clear (codes "around") (omega arith) refl l.around) state in
    let r3 = list_records (codes "around") l.around ++ r2 in
    let first = joined-clear (list_records (codes "first") l.first) r3 (list-clear (codes "first") (omega arith) refl l.first) around in
    let r4 = list_records (codes "first") l.first ++ r3 in
    let entry = joined-clear (list_records (codes "entry") l.entry) r4 (list-clear (codes "entry") (omega arith) refl l.entry) first in
    (diagram-clear (codes "control") (omega arith) refl l.control, entry)

pub body-clear : (f : Flat) (c : Certificate) → IsTold f → AreClear (body_records f c)
body-clear f c told =
    let last : AreClear (last_record ∷ []) = ((omega arith, (refl, tt)), tt) in
    let locations = joined-clear (flat_map location_records c.locations) (last_record ∷ []) (flat-clear location_records location-clear c.locations) last in
    let main : IsClear (codes "main" ∷ f.main ∷ []) = (omega arith, (refl, (name-quiet f.main told.main, tt))) in
    let bits : IsClear (codes "bits" ∷ bit_texts f) = (omega arith, (refl, mapped-quiet (bit_text f.inputs) (bit-quiet f.inputs told.inputs) f.variables)) in
    let columns : IsClear (codes "columns" ∷ column_texts f) = (
      omega arith,
      (refl, mapped-quiet (column_text f.inputs) (column-quiet f.inputs told.inputs) f.columns),
    ) in
    (main, (bits, (columns, (count-clear (codes "locations") (omega arith) refl (length c.locations), locations))))

certificate-clear : (f : Flat) (c : Certificate) → IsTold f → AreClear (certificate_records f c)
certificate-clear f c told = ((omega arith, (refl, (refl, (refl, tt)))), body-clear f c told)

-- ---- How they are written.
field-same : (f : List ℕ) → IsQuiet f → field_text default_writer f ≡ f
field-same f h = ap (λ b. if by_style style.Necessary b then quoted default_writer f else f) h

fields-same : (fs : List (List ℕ)) → AreQuiet fs → fields_text default_writer fs ≡ more_fields fs
unfolding fields_text
fields-same [] h = refl
fields-same (f ∷ fs) h = ap (λ l. 44 ∷ (l ++ fields_text default_writer fs)) (field-same f h.0) ∙ ap (λ l. 44 ∷ (f ++ l)) (fields-same fs h.1)

row-line : (r : Fields) → IsClear r → row_text default_writer r ≡ line r
row-line [] h = absurd h
row-line (f ∷ fs) h =
    let same = field-same f h.1.0 in
    ap (λ b. (field_text default_writer f ++ fields_text default_writer fs) ++ ((if b then 34 ∷ 34 ∷ [] else []) ++ (10 ∷ []))) (not-blank f fs h.0 same)
    ∙ ap (λ l. (l ++ fields_text default_writer fs) ++ (10 ∷ [])) same
    ∙ ap (λ l. (f ++ l) ++ (10 ∷ [])) (fields-same fs h.1.1)

rows-lines : (rs : List Fields) → AreClear rs → rows_text rs ≡ lines rs
unfolding rows_text
rows-lines [] h = refl
rows-lines (r ∷ rs) h = ap (λ l. l ++ rows_text rs) (row-line r h.0) ∙ ap (λ l. line r ++ l) (rows-lines rs h.1)

pub clear-wide : (rs : List Fields) → AreClear rs → wide rs ≡ lines rs
clear-wide rs h = wide-rows rs ∙ rows-lines rs h

-- The records of a certificate are written as their lines.
pub certificate-wide : (f : Flat) (c : Certificate) → IsTold f → wide (certificate_records f c) ≡ lines (certificate_records f c)
certificate-wide f c told = clear-wide (certificate_records f c) (certificate-clear f c told)
