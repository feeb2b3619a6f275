-- What is known of entry rows as records are read, and that what is read is in range with it.
use Rattle.std.proofs.Common.{append_assoc, ◌≡◌, ◌+◌, ◌^◌, ◌<◌, ◌≤◌, ℕ, zero, suc, Bool, true, false, cond, List, [], ◌∷◌, ◌++◌, length, refl, sym, ap, ◌∙◌}
use Rattle.std.proofs.Common.{subst, arith, inl, inr, eqb}
use Rattle.std.proofs.lemmas.Bool.{eqb-true, eqb-false, eq-eqb, false_from_ne_true}
use Rattle.std.proofs.lemmas.List.{get_or-set_same, get_or-set_other, length-set, length_push, append-nil}
use Rattle.std.specs.Prelude.{◌&&◌, ◌||◌, not, nat_eq, nat_lt, map, flat_map, decimal, ◌⊎◌, Option, Some, None, slice_get, codes, is_some}
use Rattle.std.specs.{Str.bytes_eq, List.AllByRecursion}
use Rattle.rv_rows.specs.{declared.linear.Row.Row, declared.farkas.Multipliers.Multipliers}
use Rattle.rv_proofs.specs.declared.certificate.EntryKind.TheVariants.{Dead, Go, Loop}
use Rattle.rv_proofs.specs.{declared.certificate.Certificate.Certificate, declared.certificate.Location.Location, declared.certificate.Entry.Entry}
use Rattle.rv_proofs.specs.{declared.certificate.EntryKind.EntryKind}
use Rattle.rv_invfile.specs.declared.fault.Why.TheVariants as why
use Rattle.rv_invfile.specs.Rules.{Fields, Form, Rule, done, await, form_of, fault_in, fault_by, is_plain}
use Rattle.rv_invfile.specs.Forms.{field, fixed, word_of, counts, exactly}
use Rattle.rv_invfile.specs.{Parts.bind, Parts.times, Parts.either, Parts.turns, Spells.Spells, Texts.natural, Texts.same_fields}
use Rattle.rv_invfile.proofs.Written.{right-record, counts-written, exactly-written, worded, number-is, two-fields}
use Rattle.rv_invfile.proofs.{SameFields.row-same, Spelled.bind-parts}
use Rattle.rv_invariant.specs.Pieces.{a_diagram, a_list, a_proof, a_row, by_form, by_record, diagram_record, list_records, multipliers_of, row_record}
use Rattle.rv_invariant.specs.Certificates.{known_at, learn, low_of, high_of, after_entry, after_first, after_around, row_lists, has_turned, count_rule}
use Rattle.rv_invariant.specs.Certificates.{second_rule, second_or, after_proofs, after_lists, after_control, front_rule, going, reach_rule, go_entry}
use Rattle.rv_invariant.specs.Certificates.{dead_entry}
use Rattle.rv_invariant.specs.Certificates.{go_rule, dead_rule, plain_rule, plain_forms, turn_entry, a_part, after_third, after_second, after_one, after_when}
use Rattle.rv_invariant.specs.Certificates.{turn_rule, whole_turn, turn_then, is_turn, kinds_at, entry_rule, entries_rule, location_of, outline, needs_turn}
use Rattle.rv_invariant.specs.Certificates.{after_front, location_rule, locations_rule, last_record, entry_records, location_records, cases_records}
use Rattle.rv_invariant.specs.{declared.counts.Shape.Shape, declared.fronts.Front.Front, declared.fronts.Lists.Lists, Continues.Known, Continues.Then}
use Rattle.rv_invariant.specs.declared.outlines.{Kinds.Kinds, Outline.Outline}
use Rattle.rv_invariant.specs.declared.outlines.Kinds.TheVariants as kinds
use Rattle.rv_diagram.specs.declared.frozen.Frozen.{Frozen}
use Rattle.rv_invariant.proofs.Going.{entries-none, entries-suc, locations-none, locations-suc, not-dead, go-form}
use Rattle.rv_invariant.proofs.Recorded.{diagram-written, proof-written, row-written}
use Rattle.rv_invariant.proofs.Ranging.{SetFits, KeptRow, ProofFits, diagram-fits, list-fits, proof-fits, row-fits, times-all}
use Rattle.rv_invariant.proofs.Turning.{Obeys, differ, has_turn, obeys-turns, obeys-needed, nothing-in, neither}
use Rattle.rv_invariant.proofs.Seconds.{AreSeconds, second_next, second-waits}
use Rattle.rv_invariant.proofs.{Choices.form-left, Choices.form-right, Spelling.below-told, Spelling.times-written}

-- ---- What stands before the entries.
-- the rows of a location
pub record RowsFit (memories : ℕ) (lists : Lists) : Type 0 where
  pub entry : AllByRecursion (KeptRow memories) lists.entry
  pub few_first : length lists.first ≤ 1024
  pub first : AllByRecursion (KeptRow memories) lists.first
  pub few_around : length lists.around ≤ 1024
  pub around : AllByRecursion (KeptRow memories) lists.around
  pub few_state : length lists.state ≤ 1024
  pub state : AllByRecursion (KeptRow memories) lists.state

pub record FrontFits (s : Shape) (low high : ℕ) (front : Front) : Type 0 where
  pub control : SetFits s true front.control
  pub least : low ≤ length front.lists.entry
  pub greatest : length front.lists.entry ≤ high
  pub rows : RowsFit s.memories front.lists
  pub counted : length front.by_entry ≡ length front.lists.state
  pub by_entry : AllByRecursion (ProofFits (2 ^ 30) (length front.lists.entry)) front.by_entry
  pub by_first : AllByRecursion (ProofFits (2 ^ 30) (length front.lists.first)) front.by_first
  pub seconds : AreSeconds front.lists front.by_first front.cases
  pub cases : front.cases ≤ 4294967295

lists-fit : (memories low high : ℕ) (lists : Lists) (rs : List Fields) → Spells (row_lists memories low high) lists rs
    → (low ≤ length lists.entry) × (length lists.entry ≤ high) × RowsFit memories lists
lists-fit memories low high lists rs s =
    let a = bind-parts (a_list memories (codes "entry") low high) (after_entry memories) lists rs s in
    let b = bind-parts (a_list memories (codes "first") 0 1024) (after_first memories a.value) lists a.back a.second in
    let d = bind-parts (a_list memories (codes "around") 0 1024) (after_around memories a.value b.value) lists b.back b.second in
    let e = bind-parts (a_list memories (codes "state") 0 1024)
    (λ state. done (record { entry = a.value; first = b.value; around = d.value; state = state })) lists d.back d.second in
    let f = list-fits memories (codes "entry") low high a.value a.front a.first in
    let g = list-fits memories (codes "first") 0 1024 b.value b.front b.first in
    let h = list-fits memories (codes "around") 0 1024 d.value d.front d.first in
    let k = list-fits memories (codes "state") 0 1024 e.value e.front e.first in
    subst (λ (l : Lists). (low ≤ length l.entry) × (length l.entry ≤ high) × RowsFit memories l)
    (sym e.second.1) (
      f.0,
      f.1,
      record {
        entry = f.2;
        few_first = g.1;
        first = g.2;
        few_around = h.1;
        around = h.2;
        few_state = k.1;
        state = k.2;
      },
    )

one-proof : (greatest premises : ℕ) (m : Multipliers) (rs : List Fields) → Spells (a_proof greatest premises) m rs
    → ProofFits greatest premises m × (rs ≡ by_record m ∷ [])
one-proof greatest premises m rs h = (proof-fits greatest premises m rs h, proof-written greatest premises m rs h)

one-row : (memories : ℕ) (row : Row) (rs : List Fields) → Spells (a_row memories) row rs → KeptRow memories row × (rs ≡ row_record row ∷ [])
one-row memories row rs h = (row-fits memories row rs h, row-written memories row rs h)

list-written : (memories : ℕ) (word : List ℕ) (low high : ℕ) (rows : List Row) (rs : List Fields) → Spells (a_list memories word low high) rows rs
    → rs ≡ list_records word rows
list-written memories word low high rows rs s =
    let x = bind-parts (counts word low high) (λ n. times n (a_row memories)) rows rs s in
    let c = counts-written word low high x.value x.front x.first in
    let t = times-written (a_row memories) (KeptRow memories) row_record (one-row memories) x.value rows x.back x.second in
    x.records ∙ ap (λ l. l ++ x.back) c.0 ∙ ap (λ l. (word ∷ decimal x.value ∷ []) ∷ l) t.2
    ∙ ap (λ n. (word ∷ decimal n ∷ []) ∷ map row_record rows) (sym t.0)

-- the four lists of rows, and what comes after them
abbrev pub row_records : Lists → List Fields → List Fields
row_records l x =
    list_records (codes "entry") l.entry
    ++ (list_records (codes "first") l.first ++ (list_records (codes "around") l.around ++ (list_records (codes "state") l.state ++ x)))

pub row-records-more : (l : Lists) (x y : List Fields) → row_records l x ++ y ≡ row_records l (x ++ y)
row-records-more l x y =
    let e = list_records (codes "entry") l.entry in
    let f = list_records (codes "first") l.first in
    let a = list_records (codes "around") l.around in
    let t = list_records (codes "state") l.state in
    append_assoc e (f ++ (a ++ (t ++ x))) y ∙ ap (λ l. e ++ l) (append_assoc f (a ++ (t ++ x)) y
    ∙ ap (λ l. f ++ l) (append_assoc a (t ++ x) y ∙ ap (λ l. a ++ l) (append_assoc t x y)))

lists-written : (memories low high : ℕ) (lists : Lists) (rs : List Fields) → Spells (row_lists memories low high) lists rs → rs ≡ row_records lists []
lists-written memories low high lists rs s =
    let a = bind-parts (a_list memories (codes "entry") low high) (after_entry memories) lists rs s in
    let b = bind-parts (a_list memories (codes "first") 0 1024) (after_first memories a.value) lists a.back a.second in
    let d = bind-parts (a_list memories (codes "around") 0 1024) (after_around memories a.value b.value) lists b.back b.second in
    let e = bind-parts (a_list memories (codes "state") 0 1024)
    (λ state. done (record { entry = a.value; first = b.value; around = d.value; state = state })) lists d.back d.second in
    a.records ∙ ap (λ l. l ++ a.back) (list-written memories (codes "entry") low high a.value a.front a.first)
    ∙ ap (λ l. list_records (codes "entry") a.value ++ l)
    (b.records ∙ ap (λ l. l ++ b.back) (list-written memories (codes "first") 0 1024 b.value b.front b.first)
    ∙ ap (λ l. list_records (codes "first") b.value ++ l)
    (d.records ∙ ap (λ l. l ++ d.back) (list-written memories (codes "around") 0 1024 d.value d.front d.first)
    ∙ ap (λ l. list_records (codes "around") d.value ++ l)
    (e.records ∙ ap (λ l. l ++ e.back) (list-written memories (codes "state") 0 1024 e.value e.front e.first)
    ∙ ap (λ l. list_records (codes "state") e.value ++ l) e.second.0)))
    ∙ ap (λ (l : Lists). row_records l []) (sym e.second.1)

-- what stands before the entries, and what comes after it
abbrev pub second_records : Front → List Fields → List Fields
second_records front x = map by_record front.by_first ++ x

abbrev pub front_records : Front → List Fields → List Fields
front_records front x =
    diagram_record (codes "control") front.control ∷ row_records front.lists (map by_record front.by_entry ++ second_records front x)

pub front-records-more : (front : Front) (x y : List Fields) → front_records front x ++ y ≡ front_records front (x ++ y)
front-records-more front x y =
    ap (λ l. diagram_record (codes "control") front.control ∷ l)
    (row-records-more front.lists (map by_record front.by_entry ++ second_records front x) y
    ∙ ap (row_records front.lists) (append_assoc (map by_record front.by_entry) (second_records front x) y
    ∙ ap (λ l. map by_record front.by_entry ++ l) (append_assoc (map by_record front.by_first) x y)))

either-spells : {B : Type 0} (fs : List Form) (next : Fields → Rule B) (q : Rule B) (b : B) (rs : List Fields) → Spells (either (await fs next) q) b rs
    → Spells (await fs next) b rs ⊎ Spells q b rs
either-spells fs next (done x) b rs s = inl s
either-spells fs next (await gs then) b [] s = absurd s
either-spells {B = B} fs next (await gs then) b (r ∷ rs) s = by (form_of fs r) refl s.0 s.1
  where
    by : (o : Option Form) → form_of fs r ≡ o → fault_in (fs ++ gs) r ≡ None → Spells (cond (is_some (form_of fs r)) (next r) (then r)) b rs
        → Spells (await fs next) b (r ∷ rs) ⊎ Spells (await gs then) b (r ∷ rs)
    by (Some f) e h t =
        let same = form-left fs gs r f e ∙ sym e in
        inl (sym (ap (λ o. cond (is_plain r) (fault_by o r) (Some why.NotRecords)) same) ∙ h, subst (λ o. Spells (cond (is_some o) (next r) (then r)) b rs) e t)
    by None e h t =
        let same = form-right fs gs r e in
        inr (sym (ap (λ o. cond (is_plain r) (fault_by o r) (Some why.NotRecords)) same) ∙ h, subst (λ o. Spells (cond (is_some o) (next r) (then r)) b rs) e t)

-- ---- The second list of proofs, and the count.
record Second (control : Frozen) (lists : Lists) (by_entry : List Multipliers) (front : Front) (rs : List Fields) : Type 0 where
  by_first : List Multipliers
  count : ℕ
  same : front ≡ record { control = control; lists = lists; by_entry = by_entry; by_first = by_first; cases = count }
  proofs : AllByRecursion (ProofFits (2 ^ 30) (length lists.first)) by_first
  seconds : AreSeconds lists by_first count
  small : count ≤ 4294967295
  written : rs ≡ map by_record by_first ++ (codes "cases" ∷ decimal count ∷ []) ∷ []

module _ (control : Frozen) (lists : Lists) (by_entry : List Multipliers) (front : Front) where
  counted-second : (least : ℕ) (by_first : List Multipliers) (rs : List Fields) → Spells (count_rule control lists by_entry least by_first) front rs
      → (n : ℕ) × (front ≡ record { control = control; lists = lists; by_entry = by_entry; by_first = by_first; cases = n }) × (least ≤ n)
      × (n ≤ 4294967295) × (rs ≡ (codes "cases" ∷ decimal n ∷ []) ∷ [])
  counted-second least by_first rs h =
      let e = bind-parts (counts (codes "cases") least 4294967295)
      (λ n. done (record { control = control; lists = lists; by_entry = by_entry; by_first = by_first; cases = n })) front rs h in
      let c = counts-written (codes "cases") least 4294967295 e.value e.front e.first in
      (e.value, e.second.1, c.1, c.2, e.records ∙ ap (λ l. l ++ e.back) c.0 ∙ ap (λ l. (codes "cases" ∷ decimal e.value ∷ []) ∷ l) e.second.0)

  second-there : (n : ℕ) (rs : List Fields) → n ≡ length lists.state → Spells (second_rule control lists by_entry n) front rs
      → Second control lists by_entry front rs
  second-there n rs size h =
      let part = a_proof (2 ^ 30) (length lists.first) in
      let d = bind-parts (times n part) (count_rule control lists by_entry 1) front rs h in
      let p = times-written part (ProofFits (2 ^ 30) (length lists.first)) by_record (one-proof (2 ^ 30) (length lists.first)) n d.value d.front d.first in
      let e = counted-second 1 d.value d.back d.second in
      record {
        by_first = d.value;
        count = e.0;
        same = e.1;
        proofs = p.1;
        seconds = inl (p.0 ∙ size, e.2);
        small = e.3;
        written = d.records ∙ ap (λ l. l ++ d.back) p.2 ∙ ap (λ l. map by_record d.value ++ l) e.4;
      }

  second-left : (rs : List Fields) → has_turned lists ≡ false → Spells (count_rule control lists by_entry 0 []) front rs
      → Second control lists by_entry front rs
  second-left rs free h =
      let e = counted-second 0 [] rs h in
      record { by_first = []; count = e.0; same = e.1; proofs = tt; seconds = inr (refl, free); small = e.3; written = e.4 }

  second-or : (n : ℕ) (rs : List Fields) → n ≡ length lists.state → has_turned lists ≡ false → Spells (second_or control lists by_entry n) front rs
      → Second control lists by_entry front rs
  second-or zero rs size free h = second-left rs free h
  second-or (suc n) rs size free h =
      by (either-spells (by_form (2 ^ 30) (length lists.first) ∷ []) (second_next control lists by_entry n) (count_rule control lists by_entry 0 []) front rs
      (subst (λ q. Spells (either q (count_rule control lists by_entry 0 [])) front rs) (second-waits control lists by_entry n) h))
    where
      by : Spells (await (by_form (2 ^ 30) (length lists.first) ∷ []) (second_next control lists by_entry n)) front rs
          ⊎ Spells (count_rule control lists by_entry 0 []) front rs → Second control lists by_entry front rs
      by (inl x) = second-there (suc n) rs size (subst (λ q. Spells q front rs) (sym (second-waits control lists by_entry n)) x)
      by (inr x) = second-left rs free x

  seconds-read : (b : Bool) (rs : List Fields) → has_turned lists ≡ b
      → Spells (cond b (second_rule control lists by_entry (length lists.state)) (second_or control lists by_entry (length lists.state))) front rs
      → Second control lists by_entry front rs
  seconds-read true rs e h = second-there (length lists.state) rs refl h
  seconds-read false rs e h = second-or (length lists.state) rs refl e h

  second-read : (rs : List Fields) → Spells (after_proofs control lists by_entry) front rs → Second control lists by_entry front rs
  second-read rs h = seconds-read (has_turned lists) rs refl h

front-written : (s : Shape) (low high : ℕ) (front : Front) (rs : List Fields) → Spells (front_rule s low high) front rs
    → rs ≡ front_records front ((codes "cases" ∷ decimal front.cases ∷ []) ∷ [])
front-written s low high front rs h =
    let a = bind-parts (a_diagram s (codes "control") true) (after_control s low high) front rs h in
    let b = bind-parts (row_lists s.memories low high) (after_lists a.value) front a.back a.second in
    let d = bind-parts (times (length b.value.state) (a_proof (2 ^ 30) (length b.value.entry))) (after_proofs a.value b.value) front b.back b.second in
    let e = second-read a.value b.value d.value front d.back d.second in
    let p = times-written (a_proof (2 ^ 30) (length b.value.entry)) (ProofFits (2 ^ 30) (length b.value.entry)) by_record
    (one-proof (2 ^ 30) (length b.value.entry)) (length b.value.state) d.value d.front d.first in
    a.records ∙ ap (λ l. l ++ a.back) (diagram-written s (codes "control") true a.value a.front a.first)
    ∙ ap (λ l. diagram_record (codes "control") a.value ∷ l) (b.records ∙ ap (λ l. l ++ b.back) (lists-written s.memories low high b.value b.front b.first)
    ∙ row-records-more b.value [] b.back
    ∙ ap (row_records b.value) (d.records ∙ ap (λ l. l ++ d.back) p.2 ∙ ap (λ l. map by_record d.value ++ l) e.written))
    ∙ ap (λ (f : Front). front_records f ((codes "cases" ∷ decimal f.cases ∷ []) ∷ [])) (sym e.same)

pub front-fits : (s : Shape) (low high : ℕ) (front : Front) (rs : List Fields) → Spells (front_rule s low high) front rs → FrontFits s low high front
front-fits s low high front rs h =
    let a = bind-parts (a_diagram s (codes "control") true) (after_control s low high) front rs h in
    let b = bind-parts (row_lists s.memories low high) (after_lists a.value) front a.back a.second in
    let d = bind-parts (times (length b.value.state) (a_proof (2 ^ 30) (length b.value.entry))) (after_proofs a.value b.value) front b.back b.second in
    let e = second-read a.value b.value d.value front d.back d.second in
    let l = lists-fit s.memories low high b.value b.front b.first in
    let p = times-all (a_proof (2 ^ 30) (length b.value.entry)) (ProofFits (2 ^ 30) (length b.value.entry)) (proof-fits (2 ^ 30) (length b.value.entry))
    (length b.value.state) d.value d.front d.first in
    subst (FrontFits s low high) (sym e.same) (record {
      control = diagram-fits s (codes "control") true a.value a.front a.first;
      least = l.0;
      greatest = l.1;
      rows = l.2;
      counted = p.0;
      by_entry = p.1;
      by_first = e.proofs;
      seconds = e.seconds;
      cases = e.small;
    })

-- ---- Turns.
record Turned {A B : Type 0} (P : A → Type 0) (record_of : A → Fields) (n : ℕ) (rest : List A → Rule B) (b : B) (rs : List Fields) : Type 0 where
  values : List A
  records : List Fields
  few : length values ≤ n
  all : AllByRecursion P values
  spelled : Spells (rest values) b records
  written : rs ≡ map record_of values ++ records

module _ {A B : Type 0} (fs : List Form) (next : Fields → Rule A) (P : A → Type 0) (record_of : A → Fields)
    (one : (a : A) (rs : List Fields) → Spells (await fs next) a rs → P a × (rs ≡ record_of a ∷ [])) where
  turns-none : (rest : List A → Rule B) → turns zero (await fs next) rest ≡ rest []
  unfolding turns
  turns-none rest = refl

  turns-suc : (n : ℕ) (rest : List A → Rule B)
      → turns (suc n) (await fs next) rest ≡ either (bind (await fs next) (λ a. turns n (await fs next) (λ more. rest (a ∷ more)))) (rest [])
  unfolding turns
  turns-suc n rest = refl

  turned-by : (n : ℕ) (rest : List A → Rule B) (b : B) (rs : List Fields)
      → ((more : List A → Rule B) (r : List Fields) → Spells (turns n (await fs next) more) b r → Turned P record_of n more b r)
      → Spells (bind (await fs next) (λ a. turns n (await fs next) (λ more. rest (a ∷ more)))) b rs ⊎ Spells (rest []) b rs
      → Turned P record_of (suc n) rest b rs
  turned-by n rest b rs again (inl h) =
      let x = bind-parts (await fs next) (λ a. turns n (await fs next) (λ more. rest (a ∷ more))) b rs h in
      let t = again (λ more. rest (x.value ∷ more)) x.back x.second in
      let few = t.few in
      record {
        values = x.value ∷ t.values;
        records = t.records;
        few = omega (arith, few);
        all = ((one x.value x.front x.first).0, t.all);
        spelled = t.spelled;
        written = x.records ∙ ap (λ l. l ++ x.back) (one x.value x.front x.first).1 ∙ ap (λ l. record_of x.value ∷ l) t.written;
      }
  turned-by n rest b rs again (inr h) = record { values = []; records = rs; few = omega arith; all = tt; spelled = h; written = refl }

  turns-spells : (n : ℕ) (rest : List A → Rule B) (b : B) (rs : List Fields) → Spells (turns n (await fs next) rest) b rs → Turned P record_of n rest b rs
  turns-spells zero rest b rs s = record {
    values = [];
    records = rs;
    few = omega arith;
    all = tt;
    spelled = subst (λ p. Spells p b rs)
        (turns-none rest) s;
    written = refl;
  }
  turns-spells (suc n) rest b rs s =
      turned-by n rest b rs (λ more r t. turns-spells n more b r t)
      (either-spells fs (λ r. bind (next r) (λ a. turns n (await fs next) (λ more. rest (a ∷ more)))) (rest []) b rs
      (subst (λ p. Spells p b rs) (turns-suc n rest) s))

-- ---- What is known.
abbrev pub Tells : Known → ℕ → ℕ → Type 0
Tells known i n = known_at known i ≡ Some n

-- so many locations, each of at most 1,024 entry rows
pub record Sound (locations : ℕ) (known : Known) : Type 0 where
  pub size : length known ≡ locations
  pub small : (i n : ℕ) → Tells known i n → n ≤ 1024

-- what was known is known later
abbrev pub Follows : Known → Known → Type 0
Follows old new = (i n : ℕ) → Tells old i n → Tells new i n

none-is : (n : ℕ) → None ≡ Some n → ⊥
none-is n e = cc

none-some : {X : Type 0} (o : Option ℕ) (n : ℕ) → o ≡ None → o ≡ Some n → X
none-some o n e h = absurd (none-is n (sym e ∙ h))

record Learns (locations : ℕ) (known : Known) (i n : ℕ) : Type 0 where
  sound : Sound locations (learn known i n)
  follows : Follows known (learn known i n)
  told : Tells (learn known i n) i n

module _ (locations : ℕ) (known : Known) (i n : ℕ) (sound : Sound locations known) (there : i < locations) (same : (m : ℕ) → Tells known i m → m ≡ n)
    (few : n ≤ 1024) where
  learn-told : Tells (learn known i n) i n
  learn-told = let size = sound.size in get_or-set_same known i (Some n) None (omega (arith, there, size))

  learn-keeps : (j m : ℕ) (b : Bool) → eqb j i ≡ b → Tells known j m → Tells (learn known i n) j m
  learn-keeps j m true e h =
      let is = eqb-true j i e in
      subst (λ k. Tells (learn known i n) k m) (sym is) (learn-told ∙ ap Some (sym (same m (subst (λ k. Tells known k m) is h))))
  learn-keeps j m false e h = get_or-set_other known i j (Some n) None (eqb-false j i e) ∙ h

  learn-small : (j m : ℕ) (b : Bool) → eqb j i ≡ b → Tells (learn known i n) j m → m ≤ 1024
  learn-small j m true e h = let is = number-is m n (sym (subst (λ k. Tells (learn known i n) k m) (eqb-true j i e) h) ∙ learn-told) in omega (arith, is, few)
  learn-small j m false e h = sound.small j m (sym (get_or-set_other known i j (Some n) None (eqb-false j i e)) ∙ h)

  learns : Learns locations known i n
  learns = record {
    sound = record { size = length-set known i (Some n) ∙ sound.size; small = λ j m h. learn-small j m (eqb j i) refl h };
    follows = λ j m h. learn-keeps j m (eqb j i) refl h;
    told = learn-told;
  }

-- ---- The multipliers of a `go`.
record Reached (locations premises target : ℕ) (known : Known) (next : Then (List Multipliers)) (c : Certificate) (rs : List Fields) : Type 0 where
  reach : List Multipliers
  later : Known
  records : List Fields
  spelled : Spells (next reach later) c records
  sound : Sound locations later
  follows : Follows known later
  told : Tells later target (length reach)
  proofs : AllByRecursion (ProofFits (2 ^ 30) premises) reach
  written : rs ≡ map by_record reach ++ records

reached : (locations premises target : ℕ) (o : Option ℕ) (next : Then (List Multipliers)) (known : Known) (c : Certificate) (rs : List Fields)
    → known_at known target ≡ o → target < locations → Sound locations known
    → Spells (reach_rule premises target o next known) c rs → Reached locations premises target known next c rs
reached locations premises target (Some n) next known c rs e there sound s =
    let x = bind-parts (times n (a_proof (2 ^ 30) premises)) (λ reach. next reach known) c rs s in
    let t = times-written (a_proof (2 ^ 30) premises) (ProofFits (2 ^ 30) premises) by_record (one-proof (2 ^ 30) premises) n x.value x.front x.first in
    record {
      reach = x.value;
      later = known;
      records = x.back;
      spelled = x.second;
      sound = sound;
      follows = λ i m h. h;
      told = e ∙ ap Some (sym t.0);
      proofs = t.1;
      written = x.records ∙ ap (λ l. l ++ x.back) t.2;
    }
reached locations premises target None next known c rs e there sound s =
    let t = turns-spells (by_form (2 ^ 30) premises ∷ []) (λ r. done (multipliers_of r)) (ProofFits (2 ^ 30) premises) by_record
    (one-proof (2 ^ 30) premises) 1024
    (λ reach. next reach (learn known target (length reach))) c rs s in
    let l = learns locations known target (length t.values) sound there (λ m h. none-some (known_at known target) m e h) t.few in
    record {
      reach = t.values;
      later = learn known target (length t.values);
      records = t.records;
      spelled = t.spelled;
      sound = l.sound;
      follows = l.follows;
      told = l.told;
      proofs = t.all;
      written = t.written;
    }

-- ---- Entries.
-- a turn of a loop has a proof for each row
pub record TurnFits (s : Shape) (o : Outline) (first before around state : List Multipliers) : Type 0 where
  pub first_size : length first ≡ o.first
  pub first_fit : AllByRecursion (ProofFits (2 ^ 30) (o.entry + s.tests)) first
  pub before_size : length before ≡ o.around
  pub before_fit : AllByRecursion (ProofFits (2 ^ 30) (o.first + s.tests)) before
  pub around_size : length around ≡ o.around
  pub around_fit : AllByRecursion (ProofFits (2 ^ 30) (o.around + o.state + s.tests)) around
  pub state_size : length state ≡ o.state
  pub state_fit : AllByRecursion (ProofFits (2 ^ 30) (o.around + o.state + s.tests)) state

abbrev pub KindFits : Shape → ℕ → Outline → Known → EntryKind → Type 0
KindFits s locations o known (Dead by) = ProofFits 1 (o.state + s.tests) by
KindFits s locations o known (Go target reach) = (target < locations) × Tells known target (length reach)
    × AllByRecursion (ProofFits (2 ^ 30) (o.state + s.tests)) reach
KindFits s locations o known (Loop first before around state) = TurnFits s o first before around state

-- an entry of a location with this outline
pub record EntryFits (s : Shape) (locations : ℕ) (o : Outline) (known : Known) (e : Entry) : Type 0 where
  pub condition : SetFits s false e.condition
  pub kind : KindFits s locations o known e.kind

kind-later : (s : Shape) (locations : ℕ) (o : Outline) (old new : Known) (k : EntryKind) → Follows old new → KindFits s locations o old k
    → KindFits s locations o new k
kind-later s locations o old new (Dead by) f h = h
kind-later s locations o old new (Go target reach) f h = (h.0, f target (length reach) h.1, h.2)
kind-later s locations o old new (Loop first before around state) f h = h

entry-later : (s : Shape) (locations : ℕ) (o : Outline) (old new : Known) → Follows old new → (e : Entry) → EntryFits s locations o old e
    → EntryFits s locations o new e
entry-later s locations o old new f e h = record { condition = h.condition; kind = kind-later s locations o old new e.kind f h.kind }

-- an entry of these kinds was read
record Entered (s : Shape) (locations : ℕ) (o : Outline) (k : Kinds) (known : Known) (next : Then Entry) (c : Certificate) (rs : List Fields) : Type 0 where
  entry : Entry
  later : Known
  records : List Fields
  spelled : Spells (next entry later) c records
  sound : Sound locations later
  follows : Follows known later
  fits : EntryFits s locations o later entry
  obeys : Obeys k (is_turn entry)
  written : rs ≡ entry_records entry ++ records

module _ (s : Shape) (locations : ℕ) (o : Outline) (next : Then Entry) (known : Known) (c : Certificate) (sound : Sound locations known) where
  as-any : (k : Kinds) (rs : List Fields) → Entered s locations o k known next c rs → Entered s locations o kinds.Any known next c rs
  as-any k rs e = record {
    entry = e.entry;
    later = e.later;
    records = e.records;
    spelled = e.spelled;
    sound = e.sound;
    follows = e.follows;
    fits = e.fits;
    obeys = tt;
    written = e.written;
  }

  go-entered : (r : Fields) (target : ℕ) (rs : List Fields) → r ≡ codes "go" ∷ decimal target ∷ [] → target < locations
      → Spells (go_rule s o.state target next known) c rs
      → Entered s locations o kinds.Plain known next c (r ∷ rs)
  go-entered first target rs here there h =
      let a = bind-parts (a_diagram s (codes "when") false) (λ when. reach_rule (o.state + s.tests) target (known_at known target)
      (λ reach. next (go_entry target when reach)) known) c rs h in
      let r = reached locations (o.state + s.tests) target (known_at known target)
      (λ reach. next (go_entry target a.value reach)) known c a.back refl there sound a.second in
      record {
        entry = go_entry target a.value r.reach;
        later = r.later;
        records = r.records;
        spelled = r.spelled;
        sound = r.sound;
        follows = r.follows;
        fits = record { condition = diagram-fits s (codes "when") false a.value a.front a.first; kind = (there, r.told, r.proofs) };
        obeys = refl;
        written = ap (λ x. x ∷ rs) here
            ∙ ap (λ l. (codes "go" ∷ decimal target ∷ []) ∷ l) (a.records ∙ ap (λ l. l ++ a.back)
            (diagram-written s (codes "when") false a.value a.front a.first)
            ∙ ap (λ l. diagram_record (codes "when") a.value ∷ l) r.written);
      }

  dead-entered : (r : Fields) (rs : List Fields) → r ≡ codes "dead" ∷ [] → Spells (dead_rule s o.state next known) c rs
      → Entered s locations o kinds.Plain known next c (r ∷ rs)
  dead-entered first rs here h =
      let a = bind-parts (a_diagram s (codes "when") false) (λ when. bind (a_proof 1 (o.state + s.tests)) (λ by. next (dead_entry when by) known)) c rs h in
      let b = bind-parts (a_proof 1 (o.state + s.tests)) (λ by. next (dead_entry a.value by) known) c a.back a.second in
      record {
        entry = dead_entry a.value b.value;
        later = known;
        records = b.back;
        spelled = b.second;
        sound = sound;
        follows = λ i m x. x;
        fits = record {
          condition = diagram-fits s (codes "when") false a.value a.front a.first;
          kind = proof-fits 1 (o.state + s.tests) b.value b.front b.first;
        };
        obeys = refl;
        written = ap (λ x. x ∷ rs) here
            ∙ ap (λ l. (codes "dead" ∷ []) ∷ l) (a.records ∙ ap (λ l. l ++ a.back) (diagram-written s (codes "when") false a.value a.front a.first)
            ∙ ap (λ l. diagram_record (codes "when") a.value ∷ l) (b.records ∙ ap (λ l. l ++ b.back)
            (proof-written 1 (o.state + s.tests) b.value b.front b.first)));
      }

  target-there : (r : Fields) → fault_in (plain_forms locations) r ≡ None → bytes_eq (word_of r) (codes "go") ≡ true
      → (natural (field r 1) < locations) × (r ≡ codes "go" ∷ decimal (natural (field r 1)) ∷ [])
  target-there r h go =
      let alone = go-form locations ((going locations).is_kind r) _ (going locations) (fixed (codes "dead" ∷ [])) (not-dead r go) in
      let right = right-record (going locations) r (sym (ap (λ o. cond (is_plain r) (fault_by o r) (Some why.NotRecords)) alone) ∙ h) in
      let w = worded (codes "go") 2 r right.of_kind in
      let t = below-told locations (field r 1) (right.allowed 1 (omega (arith, w.1))) in
      (t.1, two-fields r w.1 ∙ ap (λ x. x ∷ field r 1 ∷ []) w.0 ∙ ap (λ x. codes "go" ∷ x ∷ []) t.0)

  dead-there : (r : Fields) → fault_in (plain_forms locations) r ≡ None → bytes_eq (word_of r) (codes "go") ≡ false → r ≡ codes "dead" ∷ []
  dead-there r h other =
      let alone = ap (λ b. cond (is_plain r) (fault_by (cond (b && nat_eq (length r) 2) (Some (going locations))
      (cond (same_fields r (codes "dead" ∷ [])) (Some (fixed (codes "dead" ∷ []))) None)) r) (Some why.NotRecords)) other in
      let right = right-record (fixed (codes "dead" ∷ [])) r (sym alone ∙ h) in
      row-same r (codes "dead" ∷ []) right.of_kind

  entered-by : (r : Fields) (rs : List Fields) (b : Bool) → bytes_eq (word_of r) (codes "go") ≡ b → fault_in (plain_forms locations) r ≡ None
      → Spells (cond b (go_rule s o.state (natural (field r 1)) next known) (dead_rule s o.state next known)) c rs
      → Entered s locations o kinds.Plain known next c (r ∷ rs)
  entered-by r rs true e h t = let x = target-there r h e in go-entered r (natural (field r 1)) rs x.1 x.0 t
  entered-by r rs false e h t = dead-entered r rs (dead-there r h e) t

  plain-entered : (rs : List Fields) → Spells (plain_rule s locations o.state next known) c rs → Entered s locations o kinds.Plain known next c rs
  plain-entered [] h = absurd h
  plain-entered (r ∷ rs) h = entered-by r rs (bytes_eq (word_of r) (codes "go")) refl h.0 h.1

  -- a part of a turn
  part-written : (rows n : ℕ) (ms : List Multipliers) (rs : List Fields) → Spells (a_part s rows n) ms rs
      → (length ms ≡ n) × AllByRecursion (ProofFits (2 ^ 30) (rows + s.tests)) ms × (rs ≡ map by_record ms)
  part-written rows n ms rs h =
      times-written (a_proof (2 ^ 30) (rows + s.tests)) (ProofFits (2 ^ 30) (rows + s.tests)) by_record (one-proof (2 ^ 30) (rows + s.tests)) n ms rs h

  turn-entered : (rs : List Fields) → Spells (turn_then s o next known) c rs → Entered s locations o kinds.Turn known next c rs
  turn-entered rs h =
      let x = bind-parts (whole_turn s o) (λ e. next e known) c rs h in
      let a = bind-parts (exactly (codes "loop" ∷ [])) (λ u. turn_rule s o) x.value x.front x.first in
      let b = bind-parts (a_diagram s (codes "when") false) (after_when s o) x.value a.back a.second in
      let d = bind-parts (a_part s o.entry o.first) (after_one s o b.value) x.value b.back b.second in
      let e = bind-parts (a_part s o.first o.around) (after_second s o b.value d.value) x.value d.back d.second in
      let f = bind-parts (a_part s (o.around + o.state) o.around) (after_third s o b.value d.value e.value) x.value e.back e.second in
      let g = bind-parts (a_part s (o.around + o.state) o.state) (λ state. done (turn_entry b.value d.value e.value f.value state)) x.value f.back f.second in
      let p1 = part-written o.entry o.first d.value d.front d.first in
      let p2 = part-written o.first o.around e.value e.front e.first in
      let p3 = part-written (o.around + o.state) o.around f.value f.front f.first in
      let p4 = part-written (o.around + o.state) o.state g.value g.front g.first in
      record {
        entry = turn_entry b.value d.value e.value f.value g.value;
        later = known;
        records = x.back;
        spelled = subst (λ y. Spells (next y known) c x.back) g.second.1 x.second;
        sound = sound;
        follows = λ i m y. y;
        fits = record {
          condition = diagram-fits s (codes "when") false b.value b.front b.first;
          kind = record {
            first_size = p1.0;
            first_fit = p1.1;
            before_size = p2.0;
            before_fit = p2.1;
            around_size = p3.0;
            around_fit = p3.1;
            state_size = p4.0;
            state_fit = p4.1;
          };
        };
        obeys = refl;
        written = x.records ∙ ap (λ l. l ++ x.back) (a.records ∙ ap (λ l. l ++ a.back) (exactly-written (codes "loop" ∷ []) a.value a.front a.first)
            ∙ ap (λ l. (codes "loop" ∷ []) ∷ l) (b.records ∙ ap (λ l. l ++ b.back) (diagram-written s (codes "when") false b.value b.front b.first)
            ∙ ap (λ l. diagram_record (codes "when") b.value ∷ l) (d.records ∙ ap (λ l. l ++ d.back) p1.2
            ∙ ap (λ l. map by_record d.value ++ l) (e.records ∙ ap (λ l. l ++ e.back) p2.2
            ∙ ap (λ l. map by_record e.value ++ l) (f.records ∙ ap (λ l. l ++ f.back) p3.2
            ∙ ap (λ l. map by_record f.value ++ l) (g.records ∙ ap (λ l. l ++ g.back) p4.2
            ∙ ap (λ l. map by_record g.value ++ l) g.second.0 ∙ append-nil (map by_record g.value)))))));
      }

  any-entered : (rs : List Fields) → Spells (await (fixed (codes "loop" ∷ []) ∷ []) (λ r. bind (turn_rule s o) (λ e. next e known))) c rs
      ⊎ Spells (plain_rule s locations o.state next known) c rs → Entered s locations o kinds.Any known next c rs
  any-entered rs (inl h) = as-any kinds.Turn rs (turn-entered rs h)
  any-entered rs (inr h) = as-any kinds.Plain rs (plain-entered rs h)

  entered : (k : Kinds) (rs : List Fields) → Spells (entry_rule s locations o k next known) c rs → Entered s locations o k known next c rs
  entered kinds.Plain rs h = plain-entered rs h
  entered kinds.Any rs h =
      any-entered rs (either-spells (fixed (codes "loop" ∷ []) ∷ []) (λ r. bind (turn_rule s o) (λ e. next e known))
      (plain_rule s locations o.state next known) c rs h)
  entered kinds.Turn rs h = turn-entered rs h

all-push : {A : Type 0} (P : A → Type 0) (xs : List A) (x : A) → AllByRecursion P xs → P x → AllByRecursion P (xs ++ x ∷ [])
all-push P [] x h p = (p, tt)
all-push P (y ∷ ys) x h p = (h.0, all-push P ys x h.1 p)

pub all-map : {A : Type 0} (P Q : A → Type 0) → ((a : A) → P a → Q a) → (xs : List A) → AllByRecursion P xs → AllByRecursion Q xs
all-map P Q f [] h = tt
all-map P Q f (x ∷ xs) h = (f x h.0, all-map P Q f xs h.1)

record AllEntered (s : Shape) (locations : ℕ) (o : Outline) (needed : Bool) (n count : ℕ) (before : List Entry) (known : Known) (next : Then (List Entry))
    (c : Certificate) (rs : List Fields) : Type 0 where
  entries : List Entry
  later : Known
  records : List Fields
  spelled : Spells (next entries later) c records
  sound : Sound locations later
  follows : Follows known later
  size : length entries ≡ count
  fits : AllByRecursion (EntryFits s locations o later) entries
  added : List Entry
  grown : entries ≡ before ++ added
  turned : has_turn added ≡ true → o.turns ≡ true
  met : o.turns ≡ true → needed ≡ true → 1 ≤ n → has_turn added ≡ true
  written : rs ≡ flat_map entry_records added ++ records

turns-by : (turns needed : Bool) (n : ℕ) (b later : Bool) → Obeys (kinds_at turns needed n) b → (later ≡ true → turns ≡ true) → (b || later) ≡ true
    → turns ≡ true
turns-by turns needed n true later h f e = obeys-turns turns needed n true h refl
turns-by turns needed n false later h f e = f e

met-by : (turns needed b later : Bool) (n : ℕ) → turns ≡ true → needed ≡ true → Obeys (kinds_at turns needed n) b
    → (turns ≡ true → (needed && not b) ≡ true → 1 ≤ n → later ≡ true) → (b || later) ≡ true
met-by turns needed b later n t e h f = obeys-needed needed b later n e (subst (λ x. Obeys (kinds_at x needed n) b) t h) (λ x l. f t x l)

all-entered : (s : Shape) (locations : ℕ) (o : Outline) (needed : Bool) (n count : ℕ) (before : List Entry) (next : Then (List Entry)) (known : Known)
    (c : Certificate) (rs : List Fields)
    → Sound locations known → length before + n ≡ count
    → AllByRecursion (EntryFits s locations o known) before → Spells (entries_rule s locations o needed n before next known) c rs
    → AllEntered s locations o needed n count before known next c rs
all-entered s locations o needed zero count before next known c rs sound size fits h = record {
  entries = before;
  later = known;
  records = rs;
  spelled = subst (λ p. Spells p c rs) (entries-none s locations o needed before next known) h;
  sound = sound;
  follows = λ i m x. x;
  size = omega (arith, size);
  fits = fits;
  added = [];
  grown = sym (append-nil before);
  turned = λ e. differ false e refl;
  met = λ t e l. absurd (omega (arith, l));
  written = refl;
}
all-entered s locations o needed (suc n) count before next known c rs sound size fits h =
    let a = entered s locations o (λ e. entries_rule s locations o (needed && not (is_turn e)) n (before ++ e ∷ []) next) known c sound
    (kinds_at o.turns needed n) rs
    (subst (λ p. Spells p c rs) (entries-suc s locations o needed n before next known) h) in
    let kept = all-map (EntryFits s locations o known) (EntryFits s locations o a.later) (entry-later s locations o known a.later a.follows) before fits in
    let pushed = length_push before a.entry in
    let b = all-entered s locations o (needed && not (is_turn a.entry)) n count (before ++ a.entry ∷ []) next a.later c a.records a.sound
    (omega (arith, size, pushed))
    (all-push (EntryFits s locations o a.later) before a.entry kept a.fits) a.spelled in
    record {
      entries = b.entries;
      later = b.later;
      records = b.records;
      spelled = b.spelled;
      sound = b.sound;
      follows = λ i m x. b.follows i m (a.follows i m x);
      size = b.size;
      fits = b.fits;
      added = a.entry ∷ b.added;
      grown = b.grown ∙ append_assoc before (a.entry ∷ []) b.added;
      turned = λ e. turns-by o.turns needed n (is_turn a.entry) (has_turn b.added) a.obeys b.turned e;
      met = λ t e l. met-by o.turns needed (is_turn a.entry) (has_turn b.added) n t e a.obeys b.met;
      written = a.written ∙ ap (λ l. entry_records a.entry ++ l) b.written
          ∙ sym (append_assoc (entry_records a.entry) (flat_map entry_records b.added) b.records);
    }

-- ---- Locations.
abbrev pub outline_of : Location → Outline
outline_of l = record {
  entry = length l.entry;
  first = length l.first;
  around = length l.around;
  state = length l.state;
  turns = nat_eq (length l.by_first) (length l.state);
}

abbrev pub lists_of : Location → Lists
lists_of l = record { entry = l.entry; first = l.first; around = l.around; state = l.state }

pub record LocationFits (s : Shape) (locations : ℕ) (known : Known) (i : ℕ) (l : Location) : Type 0 where
  pub control : SetFits s true l.control
  pub told : Tells known i (length l.entry)
  pub few_entry : length l.entry ≤ 1024
  pub rows : RowsFit s.memories (lists_of l)
  pub counted : length l.by_entry ≡ length l.state
  pub by_entry : AllByRecursion (ProofFits (2 ^ 30) (length l.entry)) l.by_entry
  pub by_first : AllByRecursion (ProofFits (2 ^ 30) (length l.first)) l.by_first
  pub turned : has_turn l.entries ≡ true → length l.by_first ≡ length l.state
  pub unturned : has_turn l.entries ≡ false → (l.first ≡ []) × (l.around ≡ []) × (l.by_first ≡ [])
  pub few : length l.entries < 2 ^ 32
  pub entries : AllByRecursion (EntryFits s locations (outline_of l) known) l.entries

location-later : (s : Shape) (locations : ℕ) (old new : Known) (i : ℕ) (l : Location) → Follows old new → LocationFits s locations old i l
    → LocationFits s locations new i l
location-later s locations old new i l f h = record {
  control = h.control;
  told = f i (length l.entry) h.told;
  few_entry = h.few_entry;
  rows = h.rows;
  counted = h.counted;
  by_entry = h.by_entry;
  by_first = h.by_first;
  turned = h.turned;
  unturned = h.unturned;
  few = h.few;
  entries = all-map (EntryFits s locations (outline_of l) old) (EntryFits s locations (outline_of l) new)
      (entry-later s locations (outline_of l) old new f) l.entries h.entries;
}

record Located (s : Shape) (locations i : ℕ) (known : Known) (next : Then Location) (c : Certificate) (rs : List Fields) : Type 0 where
  location : Location
  later : Known
  records : List Fields
  spelled : Spells (next location later) c records
  sound : Sound locations later
  follows : Follows known later
  fits : LocationFits s locations later i location
  written : rs ≡ location_records location ++ records

-- a location that needs a turn may have one, and has an entry
needs-met : (front : Front) → AreSeconds front.lists front.by_first front.cases → needs_turn front ≡ true
    → ((outline front).turns ≡ true) × (1 ≤ front.cases)
needs-met front (inl h) e = (eq-eqb (length front.by_first) (length front.lists.state) h.0, h.1)
needs-met front (inr h) e =
    differ (needs_turn front) e (ap (λ b. b || nat_lt 0 (length front.by_first)) h.1 ∙ ap (λ (l : List Multipliers). nat_lt 0 (length l)) h.0)

not-needed : (front : Front) → needs_turn front ≡ false → (front.lists.first ≡ []) × (front.lists.around ≡ []) × (front.by_first ≡ [])
not-needed front e =
    let p = neither (has_turned front.lists) (nat_lt 0 (length front.by_first)) e in
    let q = neither (nat_lt 0 (length front.lists.first)) (nat_lt 0 (length front.lists.around)) p.0 in
    (nothing-in front.lists.first q.0, nothing-in front.lists.around q.1, nothing-in front.by_first p.1)

without-turn : (front : Front) (es : List Entry) → AreSeconds front.lists front.by_first front.cases
    → ((outline front).turns ≡ true → needs_turn front ≡ true → 1 ≤ front.cases → has_turn es ≡ true) → has_turn es ≡ false
    → (front.lists.first ≡ []) × (front.lists.around ≡ []) × (front.by_first ≡ [])
without-turn front es seconds met none = not-needed front (false_from_ne_true (needs_turn front)
    (λ e. let p = needs-met front seconds e in differ (has_turn es) (met p.0 e p.1) none))

low-high : (o : Option ℕ) (k m : ℕ) → low_of o ≤ k → k ≤ high_of o → o ≡ Some m → m ≡ k
low-high None k m l h e = cc
low-high (Some n) k m l h e = let same = number-is n m e in omega (arith, same, l, h)

high-few : (o : Option ℕ) (k : ℕ) → ((m : ℕ) → o ≡ Some m → m ≤ 1024) → k ≤ high_of o → k ≤ 1024
high-few None k f h = h
high-few (Some n) k f h = let x = f n refl in omega (arith, x, h)

located : (s : Shape) (locations i : ℕ) (next : Then Location) (known : Known) (c : Certificate) (rs : List Fields) → Sound locations known → i < locations
    → Spells (location_rule s locations i next known) c rs → Located s locations i known next c rs
located s locations i next known c rs sound there h =
    let o = known_at known i in
    let a = bind-parts (front_rule s (low_of o) (high_of o)) (after_front s locations i next known) c rs h in
    let f = front-fits s (low_of o) (high_of o) a.value a.front a.first in
    let few = high-few o (length a.value.lists.entry) (λ m e. sound.small i m e) f.greatest in
    let l = learns locations known i (length a.value.lists.entry) sound there (λ m e. low-high o (length a.value.lists.entry) m f.least f.greatest e) few in
    let b = all-entered s locations (outline a.value) (needs_turn a.value) a.value.cases a.value.cases [] (λ entries. next (location_of a.value entries))
    (learn known i (length a.value.lists.entry)) c a.back l.sound (omega arith) tt a.second in
    let cases = f.cases in
    let size = b.size in
    record {
      location = location_of a.value b.entries;
      later = b.later;
      records = b.records;
      spelled = b.spelled;
      sound = b.sound;
      follows = λ j m x. b.follows j m (l.follows j m x);
      fits = record {
        control = f.control;
        told = b.follows i (length a.value.lists.entry) l.told;
        few_entry = few;
        rows = f.rows;
        counted = f.counted;
        by_entry = f.by_entry;
        by_first = f.by_first;
        turned = λ e. eqb-true (length a.value.by_first) (length a.value.lists.state) (b.turned (sym (ap has_turn b.grown) ∙ e));
        unturned = λ e. without-turn a.value b.added f.seconds b.met (sym (ap has_turn b.grown) ∙ e);
        few = omega (arith, cases, size);
        entries = b.fits;
      };
      written = a.records ∙ ap (λ l. l ++ a.back) (front-written s (low_of o) (high_of o) a.value a.front a.first)
          ∙ front-records-more a.value ((codes "cases" ∷ decimal a.value.cases ∷ []) ∷ []) a.back
          ∙ ap (λ l. front_records a.value ((codes "cases" ∷ decimal a.value.cases ∷ []) ∷ l))
          (b.written ∙ ap (λ l. flat_map entry_records l ++ b.records) (sym b.grown))
          ∙ ap (λ n. front_records a.value ((codes "cases" ∷ decimal n ∷ []) ∷ (flat_map entry_records b.entries ++ b.records))) (sym b.size)
          ∙ sym (front-records-more a.value (cases_records b.entries) b.records);
    }

pub record AllLocated (s : Shape) (locations : ℕ) (c : Certificate) : Type 0 where
  pub known : Known
  pub sound : Sound locations known
  pub size : length c.locations ≡ locations
  pub fits : (k : ℕ) (l : Location) → slice_get c.locations k ≡ Some l → LocationFits s locations known k l

pub record AllRead (s : Shape) (locations : ℕ) (before : List Location) (c : Certificate) (rs : List Fields) : Type 0 where
  pub located : AllLocated s locations c
  pub added : List Location
  pub grown : c.locations ≡ before ++ added
  pub written : rs ≡ flat_map location_records added ++ last_record ∷ []

pushed-at : (xs : List Location) (x : Location) (k : ℕ) (y : Location) → slice_get (xs ++ x ∷ []) k ≡ Some y
    → (slice_get xs k ≡ Some y) ⊎ ((k ≡ length xs) × (y ≡ x))
pushed-at [] x zero y h = inr (refl, same x y h)
  where
    same : (a b : Location) → Some a ≡ Some b → b ≡ a
    same a b e = cc
pushed-at [] x (suc k) y h = cc
pushed-at (z ∷ zs) x zero y h = inl h
pushed-at (z ∷ zs) x (suc k) y h = by (pushed-at zs x k y h)
  where
    by : (slice_get zs k ≡ Some y) ⊎ ((k ≡ length zs) × (y ≡ x)) → (slice_get zs k ≡ Some y) ⊎ ((suc k ≡ length (z ∷ zs)) × (y ≡ x))
    by (inl e) = inl e
    by (inr p) = inr (ap suc p.0, p.1)

location-pushed : (s : Shape) (locations : ℕ) (known : Known) (before : List Location) (x : Location)
    → ((k : ℕ) (l : Location) → slice_get before k ≡ Some l → LocationFits s locations known k l)
    → LocationFits s locations known (length before) x → (k : ℕ) (l : Location) → slice_get (before ++ x ∷ []) k ≡ Some l → LocationFits s locations known k l
location-pushed s locations known before x all one k l h = by (pushed-at before x k l h)
  where
    by : (slice_get before k ≡ Some l) ⊎ ((k ≡ length before) × (l ≡ x)) → LocationFits s locations known k l
    by (inl e) = all k l e
    by (inr p) = subst (λ j. LocationFits s locations known j l) (sym p.0) (subst (LocationFits s locations known (length before)) (sym p.1) one)

pub all-located : (s : Shape) (locations n : ℕ) (before : List Location) (known : Known) (c : Certificate) (rs : List Fields) → Sound locations known
    → length before + n ≡ locations
    → ((k : ℕ) (l : Location) → slice_get before k ≡ Some l → LocationFits s locations known k l)
    → Spells (locations_rule s locations n before known) c rs → AllRead s locations before c rs
all-located s locations zero before known c rs sound size fits h =
    let x = bind-parts (exactly last_record) (λ e. done (record { locations = before })) c rs
    (subst (λ p. Spells p c rs) (locations-none s locations before known) h) in
    let is = ap (λ (y : Certificate). y.locations) x.second.1 in
    let same = ap length is in
    record {
      located = record {
        known = known;
        sound = sound;
        size = omega (arith, size, same);
        fits = λ k l e. fits k l (subst (λ ls. slice_get ls k ≡ Some l) is e);
      };
      added = [];
      grown = is ∙ sym (append-nil before);
      written = x.records ∙ ap (λ l. l ++ x.back) (exactly-written last_record x.value x.front x.first) ∙ ap (λ l. last_record ∷ l) x.second.0;
    }
all-located s locations (suc n) before known c rs sound size fits h =
    let a = located s locations (length before) (λ l. locations_rule s locations n (before ++ l ∷ [])) known c rs sound (omega (arith, size))
    (subst (λ p. Spells p c rs) (locations-suc s locations n before known) h) in
    let pushed = length_push before a.location in
    let b = all-located s locations n (before ++ a.location ∷ []) a.later c a.records a.sound (omega (arith, size, pushed))
    (location-pushed s locations a.later before a.location (λ k l e. location-later s locations known a.later k l a.follows (fits k l e)) a.fits) a.spelled in
    record {
      located = b.located;
      added = a.location ∷ b.added;
      grown = b.grown ∙ append_assoc before (a.location ∷ []) b.added;
      written = a.written ∙ ap (λ l. location_records a.location ++ l) b.written
          ∙ sym (append_assoc (location_records a.location) (flat_map location_records b.added) (last_record ∷ []));
    }
