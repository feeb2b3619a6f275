-- The document of a certificate: how it is written, and by which rule it is read.
use Rattle.std.specs.Prelude.{◌≡◌, ◌+◌, ◌<◌, ◌^◌, ◌&&◌, ◌||◌, ℕ, zero, suc, Bool, true, false, not, cond, nat_eq, nat_lt, List, [], ◌∷◌, ◌++◌, length, map}
use Rattle.std.specs.Prelude.{flat_map, get_or, replicate, slice_get, slice_set, codes, decimal, Option, Some, None, ⊤}
use Rattle.std.specs.Str.{bytes_eq}
use Rattle.rv_diagram.specs.{Nodes.node_at, declared.frozen.Frozen.Frozen}
use Rattle.rv_rows.specs.{declared.linear.Row.Row, declared.farkas.Multipliers.Multipliers}
use Rattle.rv_proofs.specs.declared.certificate.EntryKind.TheVariants.{Dead, Go, Loop}
use Rattle.rv_proofs.specs.{Counts.HasFree, Ranges.IsInRange, declared.certificate.Certificate.Certificate, declared.certificate.Location.Location}
use Rattle.rv_proofs.specs.{declared.certificate.Entry.Entry, declared.certificate.EntryKind.EntryKind}
use Rattle.rv_flat.specs.declared.flat.Flat.{Flat}
use Rattle.rv_control.specs.Control.{control_of}
use Rattle.rv_invfile.specs.Forms.{field, fixed, is_worded, word_of, exactly, names, lists, counts}
use Rattle.rv_invfile.specs.{Rules.Fields, Rules.Form, Rules.Rule, Rules.done, Rules.await, Parts.bind, Parts.times, Parts.either, Parts.turns, Texts.natural}
use Rattle.rv_invariant.specs.Pieces.{a_diagram, a_list, a_proof, is_below, diagram_record, by_record, list_records}
use Rattle.rv_invariant.specs.{declared.counts.Shape.Shape, declared.fronts.Front.Front, declared.fronts.Lists.Lists, Continues.Known, Continues.Then}
use Rattle.rv_invariant.specs.{declared.outlines.Outline.Outline, declared.outlines.Kinds.Kinds}
use Rattle.rv_invariant.specs.declared.outlines.Kinds.TheVariants as kinds
use Rattle.rv_invariant.specs.{Naming.bit_texts, Naming.column_texts, Shapes.shape}

-- ---- How a certificate is written.
abbrev pub first_record : Fields
first_record = codes "reaver" ∷ codes "invariant" ∷ codes "1" ∷ []

abbrev pub last_record : Fields
last_record = codes "end" ∷ []

-- an entry: its kind, its condition, and its multipliers in the order of what they prove
abbrev pub kind_records : Frozen → EntryKind → List Fields
kind_records when (Dead by) = (codes "dead" ∷ []) ∷ diagram_record (codes "when") when ∷ by_record by ∷ []
kind_records when (Go target reach) = (codes "go" ∷ decimal target ∷ []) ∷ diagram_record (codes "when") when ∷ map by_record reach
kind_records when (Loop first before around state) =
    (codes "loop" ∷ []) ∷ diagram_record (codes "when") when ∷ (map by_record first ++ (map by_record before ++ (map by_record around ++ map by_record state)))

abbrev pub entry_records : Entry → List Fields
entry_records e = kind_records e.condition e.kind

-- what stands from the entries of a location on
abbrev pub cases_records : List Entry → List Fields
cases_records entries = (codes "cases" ∷ decimal (length entries) ∷ []) ∷ flat_map entry_records entries

-- the records of the four lists of rows
abbrev pub rows_of : Location → List Fields
rows_of l =
    list_records (codes "entry") l.entry
    ++ (list_records (codes "first") l.first
    ++ (list_records (codes "around") l.around
    ++ list_records (codes "state") l.state))

abbrev pub location_records : Location → List Fields
location_records l =
    diagram_record (codes "control") l.control
    ∷ (list_records (codes "entry") l.entry
    ++ (list_records (codes "first") l.first
    ++ (list_records (codes "around") l.around
    ++ (list_records (codes "state") l.state
    ++ (map by_record l.by_entry ++ (map by_record l.by_first ++ cases_records l.entries))))))

-- what names the flat system
abbrev pub name_records : Flat → List Fields
name_records f = (codes "main" ∷ f.main ∷ []) ∷ (codes "bits" ∷ bit_texts f) ∷ (codes "columns" ∷ column_texts f) ∷ []

-- the records of a certificate from the name of the node on
abbrev pub body_records : Flat → Certificate → List Fields
body_records f c =
    (codes "main" ∷ f.main ∷ [])
    ∷ (codes "bits" ∷ bit_texts f)
    ∷ (codes "columns" ∷ column_texts f)
    ∷ (codes "locations" ∷ decimal (length c.locations) ∷ [])
    ∷ (flat_map location_records c.locations ++ last_record ∷ [])

-- the records of a certificate
abbrev pub certificate_records : Flat → Certificate → List Fields
certificate_records f c = first_record ∷ body_records f c

-- ---- Which certificates have a document.
-- each reference of a diagram is held in 32 bits
pub record IsHeld (set : Frozen) : Type 0 where
  pub root : set.root < 2 ^ 32
  pub low : (n : ℕ) → n < length set.nodes → (node_at set.nodes n).lo < 2 ^ 32
  pub high : (n : ℕ) → n < length set.nodes → (node_at set.nodes n).hi < 2 ^ 32

-- each diagram of the location is held
pub record IsHeldLocation (l : Location) : Type 0 where
  pub control : IsHeld l.control
  pub conditions : (j : ℕ) (e : Entry) → slice_get l.entries j ≡ Some e → IsHeld e.condition

-- The certificate has the counts and ranges of a document of the flat system, and a location without a turn of a loop has empty `first`
-- and `around`.
pub record FitsCertificate (f : Flat) (c : Certificate) : Type 0 where
  pub range : IsInRange (control_of f) c
  pub free : HasFree c
  pub held : (k : ℕ) (l : Location) → slice_get c.locations k ≡ Some l → IsHeldLocation l

-- ---- By which rule it is read: one location.
abbrev pub known_at : Known → ℕ → Option ℕ
known_at known i = get_or known i None

-- of the location with this number so many entry rows are known
abbrev pub learn : Known → ℕ → ℕ → Known
learn known i n = slice_set known i (Some n)

-- what the count of entry rows may be
abbrev pub low_of : Option ℕ → ℕ
low_of None = 0
low_of (Some n) = n

abbrev pub high_of : Option ℕ → ℕ
high_of None = 1024
high_of (Some n) = n

-- The four lists of rows.
abbrev pub after_around : ℕ → List Row → List Row → List Row → Rule Lists
after_around memories entry first around =
    bind (a_list memories (codes "state") 0 1024) (λ state. done (record { entry = entry; first = first; around = around; state = state }))

abbrev pub after_first : ℕ → List Row → List Row → Rule Lists
after_first memories entry first = bind (a_list memories (codes "around") 0 1024) (after_around memories entry first)

abbrev pub after_entry : ℕ → List Row → Rule Lists
after_entry memories entry = bind (a_list memories (codes "first") 0 1024) (after_first memories entry)

abbrev pub row_lists : ℕ → ℕ → ℕ → Rule Lists
row_lists memories low high = bind (a_list memories (codes "entry") low high) (after_entry memories)

-- Rows that a location without a turn of a loop does not have.
abbrev pub has_turned : Lists → Bool
has_turned lists = nat_lt 0 (length lists.first) || nat_lt 0 (length lists.around)

-- What stands before the entries: the control set, the rows, a proof of each row of `state` from `entry`, in a location with a turn a
-- proof of each from `first`, and a count, which is at least 1 where there must be a turn.
abbrev pub count_rule : Frozen → Lists → List Multipliers → ℕ → List Multipliers → Rule Front
count_rule control lists by_entry least by_first =
    bind (counts (codes "cases") least 4294967295)
    (λ n. done (record { control = control; lists = lists; by_entry = by_entry; by_first = by_first; cases = n }))

abbrev pub second_rule : Frozen → Lists → List Multipliers → ℕ → Rule Front
second_rule control lists by_entry n = bind (times n (a_proof (2 ^ 30) (length lists.first))) (count_rule control lists by_entry 1)

-- so many proofs from `first`, or none
abbrev pub second_or : Frozen → Lists → List Multipliers → ℕ → Rule Front
second_or control lists by_entry zero = count_rule control lists by_entry 0 []
second_or control lists by_entry (suc n) = either (second_rule control lists by_entry (suc n)) (count_rule control lists by_entry 0 [])

abbrev pub after_proofs : Frozen → Lists → List Multipliers → Rule Front
after_proofs control lists by_entry =
    cond (has_turned lists) (second_rule control lists by_entry (length lists.state)) (second_or control lists by_entry (length lists.state))

abbrev pub after_lists : Frozen → Lists → Rule Front
after_lists control lists = bind (times (length lists.state) (a_proof (2 ^ 30) (length lists.entry))) (after_proofs control lists)

abbrev pub after_control : Shape → ℕ → ℕ → Frozen → Rule Front
after_control s low high control = bind (row_lists s.memories low high) (after_lists control)

abbrev pub front_rule : Shape → ℕ → ℕ → Rule Front
front_rule s low high = bind (a_diagram s (codes "control") true) (after_control s low high)

-- ---- Entries. Each rule takes what comes after it, since what follows the multipliers of a `go` is awaited beside them.
abbrev pub going : ℕ → Form
going locations = record {
  is_kind = is_worded (codes "go") 2;
  is_program = λ r. true;
  allows = λ r i. cond (nat_eq i 0) true (is_below locations (field r i));
}

-- `go` and a location, by the number of locations
abbrev pub a_target : ℕ → Rule ℕ
a_target locations = await (going locations ∷ []) (λ r. done (natural (field r 1)))

-- The multipliers of a `go`: as many as the target has entry rows, where that is known, and else up to 1,024, and then their
-- number is known.
abbrev pub reach_rule : ℕ → ℕ → Option ℕ → Then (List Multipliers) → Known → Rule Certificate
reach_rule premises target (Some n) next known = bind (times n (a_proof (2 ^ 30) premises)) (λ reach. next reach known)
reach_rule premises target None next known = turns 1024 (a_proof (2 ^ 30) premises) (λ reach. next reach (learn known target (length reach)))

abbrev pub go_entry : ℕ → Frozen → List Multipliers → Entry
go_entry target when reach = record { condition = when; kind = Go target reach }

abbrev pub dead_entry : Frozen → Multipliers → Entry
dead_entry when by = record { condition = when; kind = Dead by }

abbrev pub go_rule : Shape → ℕ → ℕ → Then Entry → Known → Rule Certificate
go_rule s state target next known =
    bind (a_diagram s (codes "when") false) (λ when.
    reach_rule (state + s.tests) target (known_at known target) (λ reach. next (go_entry target when reach)) known)

abbrev pub dead_rule : Shape → ℕ → Then Entry → Known → Rule Certificate
dead_rule s state next known =
    bind (a_diagram s (codes "when") false) (λ when. bind (a_proof 1 (state + s.tests)) (λ by. next (dead_entry when by) known))

-- one whole entry of either kind
abbrev pub whole_go : Shape → ℕ → ℕ → Then Entry → Known → Rule Certificate
whole_go s locations state next known = bind (a_target locations) (λ target. go_rule s state target next known)

abbrev pub whole_dead : Shape → ℕ → Then Entry → Known → Rule Certificate
whole_dead s state next known = bind (exactly (codes "dead" ∷ [])) (λ u. dead_rule s state next known)

-- a step or a dead entry of a location with so many rows in `state`
abbrev pub plain_forms : ℕ → List Form
plain_forms locations = going locations ∷ fixed (codes "dead" ∷ []) ∷ []

abbrev pub plain_rule : Shape → ℕ → ℕ → Then Entry → Known → Rule Certificate
plain_rule s locations state next known =
    await (plain_forms locations)
    (λ r. cond (bytes_eq (word_of r) (codes "go")) (go_rule s state (natural (field r 1)) next known) (dead_rule s state next known))

-- ---- Turns of a loop. Their multipliers are as many as the lists of the location have rows.
abbrev pub turn_entry : Frozen → List Multipliers → List Multipliers → List Multipliers → List Multipliers → Entry
turn_entry when first before around state = record { condition = when; kind = Loop first before around state }

-- so many proofs from so many rows and the tests
abbrev pub a_part : Shape → ℕ → ℕ → Rule (List Multipliers)
a_part s rows n = times n (a_proof (2 ^ 30) (rows + s.tests))

abbrev pub after_third : Shape → Outline → Frozen → List Multipliers → List Multipliers → List Multipliers → Rule Entry
after_third s o when first before around = bind (a_part s (o.around + o.state) o.state) (λ state. done (turn_entry when first before around state))

abbrev pub after_second : Shape → Outline → Frozen → List Multipliers → List Multipliers → Rule Entry
after_second s o when first before = bind (a_part s (o.around + o.state) o.around) (after_third s o when first before)

abbrev pub after_one : Shape → Outline → Frozen → List Multipliers → Rule Entry
after_one s o when first = bind (a_part s o.first o.around) (after_second s o when first)

abbrev pub after_when : Shape → Outline → Frozen → Rule Entry
after_when s o when = bind (a_part s o.entry o.first) (after_one s o when)

abbrev pub turn_rule : Shape → Outline → Rule Entry
turn_rule s o = bind (a_diagram s (codes "when") false) (after_when s o)

abbrev pub whole_turn : Shape → Outline → Rule Entry
whole_turn s o = bind (exactly (codes "loop" ∷ [])) (λ u. turn_rule s o)

abbrev pub turn_then : Shape → Outline → Then Entry → Known → Rule Certificate
turn_then s o next known = bind (whole_turn s o) (λ e. next e known)

-- ---- Entries of any kind.
-- the entry is a turn of a loop
abbrev pub is_turn_kind : EntryKind → Bool
is_turn_kind (Dead by) = false
is_turn_kind (Go target reach) = false
is_turn_kind (Loop first before around state) = true

abbrev pub is_turn : Entry → Bool
is_turn e = is_turn_kind e.kind

-- Which kinds are awaited, where so many entries follow this one: a turn where the location may have one; and nothing else where it is
-- the last entry and the location needs a turn still.
abbrev pub kinds_at : Bool → Bool → ℕ → Kinds
kinds_at turns needed left = cond turns (cond (needed && nat_eq left 0) kinds.Turn kinds.Any) kinds.Plain

abbrev pub entry_rule : Shape → ℕ → Outline → Kinds → Then Entry → Known → Rule Certificate
entry_rule s locations o kinds.Plain next known = plain_rule s locations o.state next known
entry_rule s locations o kinds.Any next known = either (turn_then s o next known) (plain_rule s locations o.state next known)
entry_rule s locations o kinds.Turn next known = turn_then s o next known

-- so many entries after these, of which one is a turn where that is needed still
unfoldable pub entries_rule : Shape → ℕ → Outline → Bool → ℕ → List Entry → Then (List Entry) → Known → Rule Certificate
entries_rule s locations o needed zero before next known = next before known
entries_rule s locations o needed (suc n) before next known =
    entry_rule s locations o (kinds_at o.turns needed n) (λ e. entries_rule s locations o (needed && not (is_turn e)) n (before ++ e ∷ []) next) known

-- ---- Locations.
abbrev pub location_of : Front → List Entry → Location
location_of front entries = record {
  control = front.control;
  entry = front.lists.entry;
  first = front.lists.first;
  around = front.lists.around;
  state = front.lists.state;
  by_entry = front.by_entry;
  by_first = front.by_first;
  entries = entries;
}

-- A location may have a turn of a loop where there is a proof from `first` of each row of `state`.
abbrev pub outline : Front → Outline
outline front = record {
  entry = length front.lists.entry;
  first = length front.lists.first;
  around = length front.lists.around;
  state = length front.lists.state;
  turns = nat_eq (length front.by_first) (length front.lists.state);
}

-- It must have one where there are rows in `first` or `around`, or proofs from `first`.
abbrev pub needs_turn : Front → Bool
needs_turn front = has_turned front.lists || nat_lt 0 (length front.by_first)

-- the location with this number
abbrev pub after_front : Shape → ℕ → ℕ → Then Location → Known → Front → Rule Certificate
after_front s locations i next known front =
    entries_rule s locations (outline front) (needs_turn front) front.cases [] (λ entries. next (location_of front entries))
    (learn known i (length front.lists.entry))

abbrev pub location_rule : Shape → ℕ → ℕ → Then Location → Known → Rule Certificate
location_rule s locations i next known =
    bind (front_rule s (low_of (known_at known i)) (high_of (known_at known i))) (after_front s locations i next known)

-- so many locations after these, and the end
unfoldable pub locations_rule : Shape → ℕ → ℕ → List Location → Known → Rule Certificate
locations_rule s locations zero before known = bind (exactly last_record) (λ e. done (record { locations = before }))
locations_rule s locations (suc n) before known = location_rule s locations (length before) (λ l. locations_rule s locations n (before ++ l ∷ [])) known

-- ---- The whole.
abbrev pub bits_rule : Flat → Rule ⊤
bits_rule f = lists (codes "bits") (bit_texts f)

abbrev pub columns_rule : Flat → Rule ⊤
columns_rule f = lists (codes "columns") (column_texts f)

abbrev pub head_rule : Flat → Rule ℕ
head_rule f =
    bind (exactly first_record) (λ a.
    bind (names (codes "main") f.main) (λ b.
    bind (bits_rule f) (λ c.
    bind (columns_rule f) (λ d.
    counts (codes "locations") 0 4096))))

abbrev pub all_locations : Flat → ℕ → Rule Certificate
all_locations f n = locations_rule (shape f) n n [] (replicate n None)

abbrev pub certificate_rule : Flat → Rule Certificate
certificate_rule f = bind (head_rule f) (all_locations f)

-- The records of some certificate that has the counts and ranges of a document begin with these.
abbrev pub BeginsCertificate : Flat → List Fields → Type 0
BeginsCertificate f rs = (more : List Fields) × (c : Certificate) × FitsCertificate f c × (certificate_records f c ≡ rs ++ more)
