-- The records of bytes, and those that a reader of records has left.
use Rattle.std.specs.Prelude.{◌≡◌, ◌+◌, ◌<◌, ◌≤◌, ℕ, Bool, true, false, cond, List, [], ◌∷◌, length, Option, Some, None, ⊤}
use Rattle.std.specs.Borrow.{Bor}
use Rattle.csv.specs.Reading.{Ready, default_config, is_flexible, records, records_from, strip_bom, reader_config, reader_state, reader_trim, source_of}
use Rattle.csv.specs.{declared.parser.State.State, declared.reader.Reader.Reader, Records.Row, Records.fields_of}
use Rattle.csv.specs.declared.error.ErrorKind.{ErrorKind}
use Rattle.csv.specs.declared.error.ErrorKind.TheVariants as kind
use Rattle.csv.specs.declared.reader.Trim.TheVariants as trim
use Rattle.rv_invfile.specs.Rules.{Fields}

-- The records of a file: as `csv` reads them with its defaults, without a byte order mark at the start.
abbrev pub records_of : List ℕ → List Fields
records_of bytes = records default_config (strip_bom bytes)

-- the records that bytes give from a state
abbrev pub left : State → List ℕ → List Fields
left s bytes = records_from default_config (length bytes + 1) s bytes

abbrev pub left_in : State → Option (List ℕ) → List Fields
left_in s None = []
left_in s (Some bytes) = left s bytes

abbrev pub ByteReader : Type 0
ByteReader = Reader (Bor (List ℕ))

abbrev pub known : ByteReader → Option (List ℕ)
known r = source_of (λ (s : Bor (List ℕ)). Some s.now) r

-- the records that a reader has left
abbrev pub left_of : ByteReader → List Fields
left_of r = left_in (reader_state r) (known r)

-- what is ahead: the record that stands here, if one does, and what the reader has left
abbrev pub standing : Bool → Row → ByteReader → List Fields
standing here row r = cond here (fields_of row ∷ left_of r) []

-- The most records that a file has.
abbrev pub most : ℕ
most = 67108865

-- The bytes that are left are no more than a file has.
abbrev pub Holds : ByteReader → List ℕ → Type 0
Holds r bytes = (known r ≡ Some bytes) × (length bytes < most)

-- a reader reads the records of its bytes one by one, of any number of fields, and they are not too many to be counted
pub record IsReading (r : ByteReader) (taken : ℕ) : Type 0 where
  pub trim : reader_trim r ≡ trim.None
  pub ready : Ready r
  pub config : reader_config r ≡ default_config
  pub flexible : is_flexible r ≡ true
  pub bytes : (bytes : List ℕ) × Holds r bytes
  pub few : taken + length (left_of r) < most

-- so many records were taken, and the one that stands here is no longer than a file
abbrev pub Keeps : Bool → Row → ByteReader → ℕ → Type 0
Keeps true row r taken = IsReading r taken × (length (fields_of row) ≤ most)
Keeps false row r taken = taken ≤ most

-- An error of the reader underneath, or of memory.
abbrev pub IsOfMemory : ErrorKind → Type 0
IsOfMemory (kind.Io e) = ⊤
IsOfMemory kind.OutOfMemory = ⊤
IsOfMemory (kind.Utf8 pos err) = ⊥
IsOfMemory (kind.UnequalLengths pos expected len) = ⊥
IsOfMemory (kind.Serialize text) = ⊥
IsOfMemory (kind.Deserialize pos err) = ⊥
