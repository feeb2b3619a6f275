-- The records of a certificate, written as a file, are read as them.
use Rattle.std.proofs.Common.{◌≡◌, ◌<◌, ℕ, List, [], ◌∷◌, ◌++◌, length, map, refl, ap, ◌∙◌, arith}
use Rattle.std.specs.Prelude.{codes, flat_map}
use Rattle.csv.specs.{Reading.strip_bom, Writing.fields_text, Writing.is_blank}
use Rattle.csv.proofs.RoundTrip.{rows_text}
use Rattle.rv_flat.specs.declared.flat.Flat.{Flat}
use Rattle.rv_rows.specs.{declared.linear.Row.Row, declared.farkas.Multipliers.Multipliers}
use Rattle.rv_diagram.specs.declared.frozen.Frozen.{Frozen}
use Rattle.rv_proofs.specs.declared.certificate.EntryKind.TheVariants.{Dead, Go, Loop}
use Rattle.rv_proofs.specs.{declared.certificate.Certificate.Certificate, declared.certificate.Location.Location, declared.certificate.EntryKind.EntryKind}
use Rattle.rv_invfile.specs.{Csv.records_of, Rules.Fields, Writes.wide}
use Rattle.rv_invfile.proofs.Lines.{HaveFields, wide-rows, written-read}
use Rattle.rv_invariant.specs.Certificates.{first_record, last_record, kind_records, entry_records, cases_records, location_records, body_records}
use Rattle.rv_invariant.specs.Certificates.{certificate_records}
use Rattle.rv_invariant.specs.{Pieces.by_record, Pieces.list_records, Pieces.row_record}

fields-joined : (a b : List Fields) → HaveFields a → HaveFields b → HaveFields (a ++ b)
fields-joined [] b h k = k
fields-joined (r ∷ a) b h k = (h.0, fields-joined a b h.1 k)

mapped-fields : {A : Type 0} (record_of : A → Fields) → ((a : A) → 0 < length (record_of a)) → (xs : List A) → HaveFields (map record_of xs)
mapped-fields record_of h [] = tt
mapped-fields record_of h (x ∷ xs) = (h x, mapped-fields record_of h xs)

flat-fields : {A : Type 0} (records : A → List Fields) → ((a : A) → HaveFields (records a)) → (xs : List A) → HaveFields (flat_map records xs)
flat-fields records h [] = tt
flat-fields records h (x ∷ xs) = fields-joined (records x) (flat_map records xs) (h x) (flat-fields records h xs)

proofs-fields : (ms : List Multipliers) → HaveFields (map by_record ms)
proofs-fields ms = mapped-fields by_record (λ m. omega arith) ms

list-fields : (word : List ℕ) (rows : List Row) → HaveFields (list_records word rows)
list-fields word rows = (omega arith, mapped-fields row_record (λ r. omega arith) rows)

kind-fields : (when : Frozen) (k : EntryKind) → HaveFields (kind_records when k)
kind-fields when (Dead by) = (omega arith, (omega arith, (omega arith, tt)))
kind-fields when (Go target reach) = (omega arith, (omega arith, proofs-fields reach))
kind-fields when (Loop first before around state) = (
  omega arith,
  (
    omega arith,
    fields-joined (map by_record first) (map by_record before ++ (map by_record around ++ map by_record state)) (proofs-fields first)
        (fields-joined (map by_record before) (map by_record around ++ map by_record state) (proofs-fields before)
        (fields-joined (map by_record around) (map by_record state) (proofs-fields around) (proofs-fields state))),
  ),
)

location-fields : (l : Location) → HaveFields (location_records l)
location-fields l =
    let cases : HaveFields (cases_records l.entries) = (omega arith, flat-fields entry_records (λ e. kind-fields e.condition e.kind) l.entries) in
    let by_first = fields-joined (map by_record l.by_first) (cases_records l.entries) (proofs-fields l.by_first) cases in
    let r0 = map by_record l.by_first ++ cases_records l.entries in
    let by_entry = fields-joined (map by_record l.by_entry) r0 (proofs-fields l.by_entry) by_first in
    let r1 = map by_record l.by_entry ++ r0 in
    let state = fields-joined (list_records (codes "state") l.state) r1 (list-fields (codes "state") l.state) by_entry in
    let r2 = list_records (codes "state") l.state ++ r1 in
    let around = fields-joined (list_records (codes "around") l.around) r2 (list-fields (codes "around") l.around) state in
    let r3 = list_records (codes "around") l.around ++ r2 in
    let first = fields-joined (list_records (codes "first") l.first) r3 (list-fields (codes "first") l.first) around in
    let r4 = list_records (codes "first") l.first ++ r3 in
    (omega arith, fields-joined (list_records (codes "entry") l.entry) r4 (list-fields (codes "entry") l.entry) first)

pub body-fields : (f : Flat) (c : Certificate) → HaveFields (body_records f c)
body-fields f c = (
  omega arith,
  (
    omega arith,
    (
      omega arith,
      (
        omega arith,
        fields-joined (flat_map location_records c.locations) (last_record ∷ []) (flat-fields location_records location-fields c.locations) (omega arith, tt),
      ),
    ),
  ),
)

certificate-fields : (f : Flat) (c : Certificate) → HaveFields (certificate_records f c)
certificate-fields f c = (omega arith, body-fields f c)

-- no byte order mark begins a certificate
no-mark : (rs : List Fields) → strip_bom (rows_text (first_record ∷ rs)) ≡ rows_text (first_record ∷ rs)
unfolding strip_bom rows_text fields_text is_blank
no-mark rs = refl

pub records-back : (f : Flat) (c : Certificate) → records_of (wide (certificate_records f c)) ≡ certificate_records f c
records-back f c =
    ap records_of (wide-rows (certificate_records f c)) ∙ written-read (certificate_records f c) (certificate-fields f c) (no-mark (body_records f c))
