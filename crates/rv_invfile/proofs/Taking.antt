-- What one read of a record takes of the records that are left.
use Rattle.std.proofs.Common.{◌≡◌, ◌+◌, ◌<◌, ◌≤◌, ℕ, zero, suc, Bool, true, false, cond, List, [], ◌∷◌, length, get_or, refl, sym, ap, ◌∙◌, arith, inl}
use Rattle.std.specs.{Prelude.Option, Prelude.Some, Prelude.None, Borrow.Bor}
use Rattle.csv.specs.Reading.{ReadRecord, Reached, default_config, is_flexible, took_first, strip_bom, is_bom}
use Rattle.csv.specs.{declared.parser.State.State, Records.Row, Records.fields_of, Records.field_at}
use Rattle.csv.specs.declared.reader.Trim.TheVariants as trim
use Rattle.csv.proofs.ReadFacts.{rows-more, rows-end}
use Rattle.rv_invfile.specs.Csv.{ByteReader, known, left, left_in, left_of, standing, most, Holds, IsReading, Keeps, records_of}
use Rattle.rv_invfile.specs.{Rules.Fields, Readers.Ahead, Ahead.after_one, Ahead.first}
use Rattle.csv.specs.declared.parser.State.TheVariants as st
use Rattle.rv_invfile.proofs.Left.{left-some, left-none, few, narrow, no-longer}

abbrev rem : Bor (List ℕ) → Option (List ℕ)
rem s = Some s.now

left-reached : (s s2 : State) (xs z : List ℕ) (fields : Fields) → Reached default_config s xs (fields ∷ []) s2 z → left s xs ≡ fields ∷ left s2 z
unfolding Reached
left-reached s s2 xs z fields h =
    left-some s xs h.0 h.1 ∙ ap (λ l. l ∷ left h.0.1 h.0.2) (sym h.2) ∙ ap (λ x. fields ∷ left x h.0.2) h.3.0 ∙ ap (λ x. fields ∷ left s2 x) h.3.1

reached-short : (s s2 : State) (xs z : List ℕ) (fields : Fields) → Reached default_config s xs (fields ∷ []) s2 z
    → (length z ≤ length xs) × (length fields ≤ length xs + 1)
unfolding Reached
reached-short s s2 xs z fields h =
    let a = no-longer s xs h.0 h.1 in
    let b = narrow s [] [] xs h.0 h.1 in
    (omega (arith, a, ap length h.3.1), omega (arith, b, ap length h.2))

start-reached : (s : State) (xs : List ℕ) → Reached default_config s xs [] s xs
unfolding Reached
start-reached s xs = (refl, refl)

-- a record was read
pub took-one : (a b : ByteReader) (y : List ℕ) (fields : Fields) → a.config ≡ default_config → known a ≡ Some y → ReadRecord rem a b true fields
    → (left_of a ≡ fields ∷ left_of b) × ((z : List ℕ) × (known b ≡ Some z) × (length z ≤ length y)) × (length fields ≤ length y + 1)
took-one a b y fields ec ex r =
    let m = rows-more rem a b fields default_config a.state y y [] ec ex (start-reached a.state y) r in
    let short = reached-short a.state b.state y m.0 fields m.2 in
    (ap (left_in a.state) ex ∙ left-reached a.state b.state y m.0 fields m.2 ∙ ap (λ o. fields ∷ left_in b.state o) (sym m.1), (m.0, m.1, short.0), short.1)

-- there was none
pub took-none : (a b : ByteReader) (y : List ℕ) (fields : Fields) → a.config ≡ default_config → known a ≡ Some y → ReadRecord rem a b false fields
    → left_of a ≡ []
took-none a b y fields ec ex r = ap (left_in a.state) ex ∙ left-none a.state y (rows-end rem a b fields default_config y ec ex r)

-- What is ahead after a read, and what the reader keeps.
pub took : (found : Bool) (a b : ByteReader) (y : List ℕ) (row : Row) → a.config ≡ default_config → known a ≡ Some y → ReadRecord rem a b found (fields_of row)
    → left_of a ≡ standing found row b
took true a b y row ec ex r = (took-one a b y (fields_of row) ec ex r).0
took false a b y row ec ex r = took-none a b y (fields_of row) ec ex r

pub kept : (found : Bool) (a b : ByteReader) (y : List ℕ) (row : Row) (n : ℕ) → a.config ≡ default_config → Holds a y → a.trim ≡ trim.None
    → is_flexible a ≡ true → is_flexible b ≡ is_flexible a → ReadRecord rem a b found (fields_of row) → took_first b ≡ true
    → n + length (left_of a) ≤ most → Keeps found row b n
kept true a b y row n ec ex et ef same r got room =
    let t = took-one a b y (fields_of row) ec ex.0 r in
    let bytes : (z : List ℕ) × Holds b z = (t.1.0, (t.1.1, omega (arith, t.1.2, ex.1))) in
    let reading : IsReading b n = record {
      trim = r.3 ∙ et;
      ready = inl got;
      config = r.2 ∙ ec;
      flexible = same ∙ ef;
      bytes = bytes;
      few = omega (arith, ap length t.0, room);
    } in
    (reading, omega (arith, t.2, ex.1))
kept false a b y row n ec ex et ef same r got room = omega (arith, room)

-- Where a record stands the reader reads.
pub stands : (here : Bool) (row : Row) (r : ByteReader) (n : ℕ) → 0 < length (standing here row r) → Keeps here row r n → IsReading r n × (here ≡ true)
stands true row r n h k = (k.0, refl)
stands false row r n h k = absurd (omega arith)

short-cut : (b : Bool) (x y z : ℕ) (rest : List ℕ) → length (cond b rest (x ∷ y ∷ z ∷ rest)) ≤ length (x ∷ y ∷ z ∷ rest)
short-cut true x y z rest = omega arith
short-cut false x y z rest = omega arith

-- without its mark a text is no longer
pub stripped : (bytes : List ℕ) → length (strip_bom bytes) ≤ length bytes
unfolding strip_bom
stripped (x ∷ y ∷ z ∷ rest) = short-cut (is_bom x y z) x y z rest
stripped _ = omega arith

-- a reader at the start of bytes has their records left
pub opened : (a : ByteReader) (bytes : List ℕ) → a.state ≡ st.StartRecord → known a ≡ Some (strip_bom bytes) → left_of a ≡ records_of bytes
opened a bytes es ex = ap (λ s. left_in s (known a)) es ∙ ap (left_in st.StartRecord) ex

pub few-records : (bytes : List ℕ) → length bytes ≤ 67108864 → length (records_of bytes) ≤ most
few-records bytes h =
    let s = stripped bytes in
    let n = few (length (strip_bom bytes) + 1) st.StartRecord (strip_bom bytes) in
    omega (arith, s, n)

-- one record after the other
pub goes-on : (here found : Bool) (row row2 : Row) (a b : ByteReader) (n : ℕ) → here ≡ true → left_of a ≡ standing found row2 b
    → ◌≡◌ {A = Ahead} (record { taken = n + 1; rest = standing found row2 b }) (after_one (record { taken = n; rest = standing here row a }))
goes-on true found row row2 a b n e h = ap (λ l. record { taken = n + 1; rest = l }) (sym h)
goes-on false found row row2 a b n e h = cc

field-of-some : (fs : Fields) (i : ℕ) (x : List ℕ) → Some x ≡ field_at fs i → x ≡ get_or fs i []
unfolding field_at
field-of-some [] i x e = cc
field-of-some (f ∷ fs) zero x e = cc
field-of-some (f ∷ fs) (suc i) x e = field-of-some fs i x e

field-of-none : (fs : Fields) (i : ℕ) → ◌≡◌ {A = Option (List ℕ)} None (field_at fs i) → ◌≡◌ {A = List ℕ} [] (get_or fs i [])
unfolding field_at
field-of-none [] i e = refl
field-of-none (f ∷ fs) zero e = cc
field-of-none (f ∷ fs) (suc i) e = field-of-none fs i e

-- the fields of the record that stands here
pub standing-field : (here : Bool) (row : Row) (r : ByteReader) (i : ℕ) (x : List ℕ) → here ≡ true → Some x ≡ field_at (fields_of row) i
    → x ≡ get_or (first (standing here row r)) i []
standing-field true row r i x h e = field-of-some (fields_of row) i x e
standing-field false row r i x h e = cc

pub standing-none : (here : Bool) (row : Row) (r : ByteReader) (i : ℕ) → here ≡ true → ◌≡◌ {A = Option (List ℕ)} None (field_at (fields_of row) i)
    → ◌≡◌ {A = List ℕ} [] (get_or (first (standing here row r)) i [])
standing-none true row r i h e = field-of-none (fields_of row) i e
standing-none false row r i h e = cc
