-- A certificate that has the counts and ranges of a document is read from the records that are written for it.
use Rattle.std.proofs.Common.{◌≡◌, ◌+◌, ◌%◌, ◌^◌, ◌<◌, ◌≤◌, ℕ, zero, suc, Bool, true, false, cond, List, [], ◌∷◌, ◌++◌, length, map, refl, sym, ap, ◌∙◌, subst}
use Rattle.std.proofs.Common.{arith, append_assoc, eqb, inl, inr}
use Rattle.std.proofs.lemmas.Bool.{eqb-true, eqb-false, eq-eqb}
use Rattle.std.proofs.lemmas.List.{append-nil, length_push, get_or-set_same, get_or-set_other, length-set, length-map, length-replicate}
use Rattle.std.specs.Prelude.{◌&&◌, ◌||◌, ◌⊎◌, ◌-◌, not, option_map, nat_eq, nat_le, nat_lt, Option, Some, None, is_some, slice_get, replicate, codes}
use Rattle.std.specs.Prelude.{decimal, flat_map, ⊤}
use Rattle.std.specs.{Str.bytes_eq, List.AllByRecursion, List.list_all}
use Rattle.rv_diagram.specs.declared.frozen.Frozen.{Frozen}
use Rattle.rv_rows.specs.{declared.linear.Row.Row, declared.farkas.Multipliers.Multipliers}
use Rattle.rv_flat.specs.{declared.flat.Flat.Flat, declared.parts.Bit.Bit, declared.parts.Column.Column, declared.parts.FlatInput.FlatInput}
use Rattle.rv_flat.specs.{declared.parts.Side.Side, Lists.variable_of}
use Rattle.rv_flat.specs.declared.parts.Bit.TheVariants as bit
use Rattle.rv_flat.specs.declared.parts.Column.TheVariants as column
use Rattle.rv_flat.specs.declared.parts.Side.TheVariants as side
use Rattle.rv_tree.specs.Words.{is_name}
use Rattle.rv_proofs.specs.declared.certificate.EntryKind.TheVariants.{Dead, Go, Loop}
use Rattle.rv_proofs.specs.{declared.certificate.Certificate.Certificate, declared.certificate.Location.Location, declared.certificate.Entry.Entry}
use Rattle.rv_proofs.specs.{declared.certificate.EntryKind.EntryKind}
use Rattle.rv_invfile.specs.declared.fault.Why.TheVariants as why
use Rattle.rv_invfile.specs.Rules.{Fields, Form, Rule, done, await, form_of, fault_in, fault_by, is_plain, IsDocument}
use Rattle.rv_invfile.specs.{Parts.bind, Parts.times, Parts.either, Parts.turns, Forms.fixed, Forms.word_of, Forms.counts, Forms.exactly, Forms.names}
use Rattle.rv_invfile.specs.{Spells.Spells}
use Rattle.rv_invfile.specs.{Texts.dotted, Told.IsTold}
use Rattle.rv_invfile.proofs.ReadBack.{is_plain_text, decimal-plain, dotted-plain, name-plain, pair-plain, exactly-right, names-right, lists-right}
use Rattle.rv_invfile.proofs.ReadBack.{counts-right}
use Rattle.rv_invfile.proofs.{Decimals.natural-is, Spelled.parts-bind, Spelled.spells-document, Written.number-is}
use Rattle.rv_invariant.specs.Continues.{Known, Then}
use Rattle.rv_invariant.specs.Naming.{bit_text, bit_texts, column_text, column_texts, name_at, side_text}
use Rattle.rv_invariant.specs.Pieces.{a_diagram, a_list, a_proof, by_form, by_record, diagram_record, list_records, multipliers_of}
use Rattle.rv_invariant.specs.Certificates.{known_at, learn, low_of, high_of, after_entry, after_first, after_around, row_lists, has_turned, count_rule}
use Rattle.rv_invariant.specs.Certificates.{second_rule, second_or, after_proofs, after_lists, after_control, front_rule, going, reach_rule, go_entry}
use Rattle.rv_invariant.specs.Certificates.{dead_entry}
use Rattle.rv_invariant.specs.Certificates.{go_rule, plain_rule, plain_forms, turn_entry, a_part, after_third, after_second, after_one, after_when, turn_rule}
use Rattle.rv_invariant.specs.Certificates.{whole_turn, turn_then, is_turn, is_turn_kind, kinds_at, entry_rule, entries_rule, location_of, needs_turn}
use Rattle.rv_invariant.specs.Certificates.{after_front}
use Rattle.rv_invariant.specs.Certificates.{location_rule, locations_rule, first_record, last_record, kind_records, entry_records, location_records}
use Rattle.rv_invariant.specs.Certificates.{cases_records, certificate_records, bits_rule, columns_rule, head_rule, all_locations, certificate_rule}
use Rattle.rv_invariant.specs.{declared.counts.Shape.Shape, declared.fronts.Front.Front, declared.fronts.Lists.Lists, Groups.is_grouped, Shapes.shape}
use Rattle.rv_invariant.specs.declared.outlines.{Kinds.Kinds, Outline.Outline}
use Rattle.rv_invariant.specs.declared.outlines.Kinds.TheVariants as kinds
use Rattle.rv_invariant.proofs.Knowing.{Tells, Sound, Follows, KindFits, TurnFits, EntryFits, RowsFit, LocationFits, AllLocated, outline_of, lists_of}
use Rattle.rv_invariant.proofs.Knowing.{row_records, row-records-more, front_records, front-records-more, second_records}
use Rattle.rv_invariant.proofs.Turning.{Obeys, differ, has_turn, may-obey, still-needed, later-turns, none-turns, some-turns}
use Rattle.rv_invariant.proofs.Seconds.{AreSeconds, second_next, second-waits}
use Rattle.rv_invariant.proofs.{Choices.form-left, Choices.form-right, Going.entries-none, Going.entries-suc, Going.locations-none, Going.locations-suc}
use Rattle.rv_invariant.proofs.{Counting.few-tests, Counting.tests-count, Ranging.SetFits, Ranging.ProofFits, Spelling.below-right}
use Rattle.rv_invariant.proofs.{Spelling.times-right, Standing.by-kind, Standing.diagram-right, Standing.proof-right, Standing.list-right}
use Rattle.rv_base.proofs.Truths.{both_of}

-- ---- Turns.
-- records of which the first is none of multipliers
pub record Starts (rs : List Fields) : Type 0 where
  pub front : Fields
  pub rest : List Fields
  pub parts : rs ≡ front ∷ rest
  pub other : bytes_eq (word_of front) (codes "by") ≡ false

module _ {B : Type 0} (fs : List Form) (next : Fields → Rule B) where
  -- a record of the first forms goes by the first part
  either-first : (q : Rule B) (b : B) (r : Fields) (rs : List Fields) (f : Form) → form_of fs r ≡ Some f → Spells (await fs next) b (r ∷ rs)
      → Spells (either (await fs next) q) b (r ∷ rs)
  either-first (done x) b r rs f e s = s
  either-first (await gs then) b r rs f e s =
      let same = form-left fs gs r f e ∙ sym e in (
        ap (λ o. cond (is_plain r) (fault_by o r) (Some why.NotRecords)) same ∙ s.0,
        subst (λ o. Spells (cond (is_some o) (next r) (then r)) b rs) (sym e) s.1,
      )

  -- and any other by the second
  either-second : (q : Rule B) (b : B) (r : Fields) (rs : List Fields) → form_of fs r ≡ None → Spells q b (r ∷ rs)
      → Spells (either (await fs next) q) b (r ∷ rs)
  either-second (done x) b r rs e s = let h = s.0 in absurd (clash h)
    where
      clash : r ∷ rs ≡ [] → ⊥
      clash h = cc
  either-second (await gs then) b r rs e s = (
    ap (λ o. cond (is_plain r) (fault_by o r) (Some why.NotRecords)) (form-right fs gs r e) ∙ s.0,
    subst (λ o. Spells (cond (is_some o) (next r) (then r)) b rs) (sym e) s.1,
  )

module _ {A B : Type 0} (f : Form) (next : Fields → Rule A) (record_of : A → Fields) (of_kind : (a : A) → f.is_kind (record_of a) ≡ true) where
  turns-zero : (rest : List A → Rule B) → turns zero (await (f ∷ []) next) rest ≡ rest []
  unfolding turns
  turns-zero rest = refl

  turns-next : (n : ℕ) (rest : List A → Rule B)
      → turns (suc n) (await (f ∷ []) next) rest ≡ either (bind (await (f ∷ []) next) (λ a. turns n (await (f ∷ []) next) (λ more. rest (a ∷ more)))) (rest [])
  unfolding turns
  turns-next n rest = refl

  turns-end : (n : ℕ) (rest : List A → Rule B) (b : B) (r : Fields) (rs : List Fields) → f.is_kind r ≡ false → Spells (rest []) b (r ∷ rs)
      → Spells (turns n (await (f ∷ []) next) rest) b (r ∷ rs)
  turns-end zero rest b r rs h s = subst (λ p. Spells p b (r ∷ rs)) (sym (turns-zero rest)) s
  turns-end (suc n) rest b r rs h s =
      subst (λ p. Spells p b (r ∷ rs)) (sym (turns-next n rest))
      (either-second (f ∷ []) (λ r. bind (next r) (λ a. turns n (await (f ∷ []) next) (λ more. rest (a ∷ more)))) (rest []) b r rs
      (ap (λ k. cond k (Some f) None) h) s)

  pub turns-right : (n : ℕ) (xs : List A) (rest : List A → Rule B) (b : B) (r : Fields) (rs : List Fields) → length xs ≤ n → f.is_kind r ≡ false
      → AllByRecursion (λ a. Spells (await (f ∷ []) next) a (record_of a ∷ [])) xs → Spells (rest xs) b (r ∷ rs)
      → Spells (turns n (await (f ∷ []) next) rest) b (map record_of xs ++ (r ∷ rs))
  turns-right n [] rest b r rs l h all s = turns-end n rest b r rs h s
  turns-right zero (x ∷ xs) rest b r rs l h all s = absurd (omega arith)
  turns-right (suc n) (x ∷ xs) rest b r rs l h all s =
      subst (λ p. Spells p b (record_of x ∷ (map record_of xs ++ (r ∷ rs)))) (sym (turns-next n rest))
      (either-first (f ∷ []) (λ r. bind (next r) (λ a. turns n (await (f ∷ []) next) (λ more. rest (a ∷ more)))) (rest []) b (record_of x)
      (map record_of xs ++ (r ∷ rs)) f (ap (λ k. cond k (Some f) None) (of_kind x))
      (parts-bind (await (f ∷ []) next) (λ a. turns n (await (f ∷ []) next) (λ more. rest (a ∷ more))) x b (record_of x ∷ []) (map record_of xs ++ (r ∷ rs))
      all.0
      (turns-right n xs (λ more. rest (x ∷ more)) b r rs (omega arith) h all.1 s)))

-- ---- What stands before the entries.
lists-right-of : (memories low high : ℕ) (l : Lists) → low ≤ length l.entry → length l.entry ≤ high → high < 2 ^ 64 → RowsFit memories l
    → Spells (row_lists memories low high) l (row_records l [])
lists-right-of memories low high l least most small fits =
    let k3 : List Row → Rule Lists = λ state. done (record { entry = l.entry; first = l.first; around = l.around; state = state }) in
    parts-bind (a_list memories (codes "entry") low high) (after_entry memories) l.entry l (list_records (codes "entry") l.entry)
    (list_records (codes "first") l.first ++ (list_records (codes "around") l.around ++ (list_records (codes "state") l.state ++ [])))
    (list-right memories (codes "entry") low high l.entry refl least most small fits.entry)
    (parts-bind (a_list memories (codes "first") 0 1024) (after_first memories l.entry) l.first l (list_records (codes "first") l.first)
    (list_records (codes "around") l.around ++ (list_records (codes "state") l.state ++ []))
    (list-right memories (codes "first") 0 1024 l.first refl (omega arith) fits.few_first (omega arith) fits.first)
    (parts-bind (a_list memories (codes "around") 0 1024) (after_around memories l.entry l.first) l.around l (list_records (codes "around") l.around)
    (list_records (codes "state") l.state ++ [])
    (list-right memories (codes "around") 0 1024 l.around refl (omega arith) fits.few_around (omega arith) fits.around)
    (parts-bind (a_list memories (codes "state") 0 1024) k3 l.state l (list_records (codes "state") l.state) []
    (list-right memories (codes "state") 0 1024 l.state refl (omega arith) fits.few_state (omega arith) fits.state) (refl, refl))))

-- the multipliers of a list are read as they are written
proofs-right : (most premises : ℕ) → most ≤ 2 ^ 30 → premises ≤ 2 ^ 32 → (ms : List Multipliers) → AllByRecursion (ProofFits most premises) ms
    → Spells (times (length ms) (a_proof most premises)) ms (map by_record ms)
proofs-right most premises l h ms all = times-right (a_proof most premises) (ProofFits most premises) by_record (λ m f. proof-right most premises l h m f) ms
    all

each-right : (most premises : ℕ) → most ≤ 2 ^ 30 → premises ≤ 2 ^ 32 → (ms : List Multipliers) → AllByRecursion (ProofFits most premises) ms
    → AllByRecursion (λ m. Spells (a_proof most premises) m (by_record m ∷ [])) ms
each-right most premises l h [] all = tt
each-right most premises l h (m ∷ ms) all = (proof-right most premises l h m all.0, each-right most premises l h ms all.1)

abbrev front_of : Location → Front
front_of l = record { control = l.control; lists = lists_of l; by_entry = l.by_entry; by_first = l.by_first; cases = length l.entries }

-- ---- The second list of proofs, and the count.
abbrev number_of : ℕ → Fields
number_of n = codes "cases" ∷ decimal n ∷ []

module _ (control : Frozen) (lists : Lists) (by_entry by_first : List Multipliers) (cases : ℕ) (few : length lists.first ≤ 1024)
    (small : cases ≤ 4294967295)
    (fits : AllByRecursion (ProofFits (2 ^ 30) (length lists.first)) by_first) where
  abbrev whole_front : Front
  whole_front = record { control = control; lists = lists; by_entry = by_entry; by_first = by_first; cases = cases }

  count-right : (least : ℕ) → least ≤ cases → Spells (count_rule control lists by_entry least by_first) whole_front (number_of cases ∷ [])
  count-right least l =
      let k1 : ℕ → Rule Front = λ n. done (record { control = control; lists = lists; by_entry = by_entry; by_first = by_first; cases = n }) in
      parts-bind (counts (codes "cases") least 4294967295) k1 cases whole_front (number_of cases ∷ []) []
      (counts-right (codes "cases") least 4294967295 cases refl l small (omega arith)) (refl, refl)

  second-right : (n : ℕ) → length by_first ≡ n → 1 ≤ cases
      → Spells (second_rule control lists by_entry n) whole_front (map by_record by_first ++ (number_of cases ∷ []))
  second-right n size l =
      parts-bind (times n (a_proof (2 ^ 30) (length lists.first))) (count_rule control lists by_entry 1) by_first whole_front (map by_record by_first)
      (number_of cases ∷ [])
      (subst (λ k. Spells (times k (a_proof (2 ^ 30) (length lists.first))) by_first (map by_record by_first)) size
      (proofs-right (2 ^ 30) (length lists.first) (omega arith) (omega (arith, few)) by_first fits))
      (count-right 1 l)

  -- no second list
  left-right : by_first ≡ [] → Spells (count_rule control lists by_entry 0 []) whole_front (map by_record by_first ++ (number_of cases ∷ []))
  left-right e =
      subst (λ (ms : List Multipliers). Spells (count_rule control lists by_entry 0 ms) whole_front (map by_record by_first ++ (number_of cases ∷ []))) e
      (subst (λ (ms : List Multipliers). Spells (count_rule control lists by_entry 0 by_first) whole_front (map by_record ms ++ (number_of cases ∷ [])))
      (sym e) (count-right 0 (omega arith)))

  abbrev second_form : Form
  second_form = by_form (2 ^ 30) (length lists.first)

  either-right : (n : ℕ) → (length by_first ≡ suc n) × (1 ≤ cases) ⊎ (by_first ≡ [])
      → Spells (either (second_rule control lists by_entry (suc n)) (count_rule control lists by_entry 0 [])) whole_front
      (map by_record by_first ++ (number_of cases ∷ []))
  either-right n (inl h) =
      subst (λ q. Spells (either q (count_rule control lists by_entry 0 [])) whole_front (map by_record by_first ++ (number_of cases ∷ [])))
      (sym (second-waits control lists by_entry n))
      (there by_first h.0 (subst (λ q. Spells q whole_front (map by_record by_first ++ (number_of cases ∷ []))) (second-waits control lists by_entry n)
      (second-right (suc n) h.0 h.1)))
    where
      there : (ms : List Multipliers) → length ms ≡ suc n
          → Spells (await (second_form ∷ []) (second_next control lists by_entry n)) whole_front (map by_record ms ++ (number_of cases ∷ []))
          → Spells (either (await (second_form ∷ []) (second_next control lists by_entry n)) (count_rule control lists by_entry 0 [])) whole_front
          (map by_record ms ++ (number_of cases ∷ []))
      there [] e s = absurd (omega (arith, e))
      there (m ∷ ms) e s =
          either-first (second_form ∷ []) (second_next control lists by_entry n) (count_rule control lists by_entry 0 []) whole_front (by_record m)
          (map by_record ms ++ (number_of cases ∷ [])) second_form (ap (λ k. cond k (Some second_form) None) (by-kind m)) s
  either-right n (inr e) =
      subst (λ q. Spells (either q (count_rule control lists by_entry 0 [])) whole_front (map by_record by_first ++ (number_of cases ∷ [])))
      (sym (second-waits control lists by_entry n))
      (subst (λ (ms : List Multipliers). Spells (either (await (second_form ∷ []) (second_next control lists by_entry n))
      (count_rule control lists by_entry 0 [])) whole_front (map by_record ms ++ (number_of cases ∷ []))) (sym e)
      (either-second (second_form ∷ []) (second_next control lists by_entry n) (count_rule control lists by_entry 0 []) whole_front
      (number_of cases) [] refl
      (subst (λ (ms : List Multipliers). Spells (count_rule control lists by_entry 0 []) whole_front (map by_record ms ++ (number_of cases ∷ []))) e
      (left-right e))))

  or-right : (n : ℕ) → (length by_first ≡ n) × (1 ≤ cases) ⊎ (by_first ≡ [])
      → Spells (second_or control lists by_entry n) whole_front (map by_record by_first ++ (number_of cases ∷ []))
  or-right zero (inl h) = left-right (none-of by_first h.0)
    where
      none-of : (ms : List Multipliers) → length ms ≡ 0 → ms ≡ []
      none-of [] e = refl
      none-of (m ∷ ms) e = absurd (omega (arith, e))
  or-right zero (inr e) = left-right e
  or-right (suc n) h = either-right n h

  seconds-right : (b : Bool) → has_turned lists ≡ b → AreSeconds lists by_first cases
      → Spells (cond b (second_rule control lists by_entry (length lists.state)) (second_or control lists by_entry (length lists.state))) whole_front
      (map by_record by_first ++ (number_of cases ∷ []))
  seconds-right true e (inl h) = second-right (length lists.state) h.0 h.1
  seconds-right true e (inr h) = differ (has_turned lists) e h.1
  seconds-right false e (inl h) = or-right (length lists.state) (inl h)
  seconds-right false e (inr h) = or-right (length lists.state) (inr h.0)

-- what a location has of them
location-seconds : (l : Location) (b : Bool) → has_turn l.entries ≡ b → (has_turn l.entries ≡ true → length l.by_first ≡ length l.state)
    → (has_turn l.entries ≡ false → (l.first ≡ []) × (l.around ≡ []) × (l.by_first ≡ [])) → AreSeconds (lists_of l) l.by_first (length l.entries)
location-seconds l true e f g = inl (f e, some-turns l.entries e)
location-seconds l false e f g =
    let p = g e in
    inr (p.2, (λ i. nat_lt 0 (length (p.0 i)) || nat_lt 0 (length (p.1 i))))

no-proof : (r : Fields) → bytes_eq (word_of r) (codes "by") ≡ false → is_grouped (codes "by") 2 r ≡ false
no-proof r h = ap (λ b. b && (nat_le 2 (length r) && nat_eq ((length r - 2) % 2) 0)) h

go-fault : (locations target : ℕ) → target < locations → target < 2 ^ 32 → fault_in (plain_forms locations) (codes "go" ∷ decimal target ∷ []) ≡ None
go-fault locations target l small =
    ap (λ b. cond b (fault_by (Some (going locations)) (codes "go" ∷ decimal target ∷ [])) (Some why.NotRecords))
    (pair-plain (codes "go") (decimal target) refl (decimal-plain target))
    ∙ ap (λ b. option_map why.BadNumber (cond b None (Some 1))) (below-right locations target l small)

kind-start : (when : Frozen) (k : EntryKind) (x y : List Fields) → Starts ((kind_records when k ++ x) ++ y)
kind-start when (Dead by) x y = record {
  front = codes "dead" ∷ [];
  rest = (diagram_record (codes "when") when ∷ by_record by ∷ x) ++ y;
  parts = refl;
  other = refl;
}
kind-start when (Go target reach) x y = record {
  front = codes "go" ∷ decimal target ∷ [];
  rest = (diagram_record (codes "when") when ∷ (map by_record reach ++ x)) ++ y;
  parts = refl;
  other = refl;
}
kind-start when (Loop first before around state) x y = record {
  front = codes "loop" ∷ [];
  rest = (diagram_record (codes "when") when ∷ ((map by_record first ++ (map by_record before ++ (map by_record around ++ map by_record state))) ++ x)) ++ y;
  parts = refl;
  other = refl;
}

entries-start : (es : List Entry) (rs : List Fields) → Starts rs → Starts (flat_map entry_records es ++ rs)
entries-start [] rs h = h
entries-start (e ∷ es) rs h = kind-start e.condition e.kind (flat_map entry_records es) rs

locations-start : (ls : List Location) → Starts (flat_map location_records ls ++ last_record ∷ [])
locations-start [] = record { front = last_record; rest = []; parts = refl; other = refl }
locations-start (l ∷ ls) = record { front = diagram_record (codes "control") l.control; rest = _; parts = refl; other = refl }

-- the number of entry rows is what is known of it, or small
ends-right : (o : Option ℕ) (n : ℕ) → n ≤ 1024 → ((m : ℕ) → o ≡ Some m → m ≡ n) → (low_of o ≤ n) × (n ≤ high_of o) × (high_of o ≤ 1024)
ends-right None n h f = (omega arith, h, omega arith)
ends-right (Some m) n h f = let e = f m refl in (omega (arith, e), omega (arith, e), omega (arith, e, h))

shape-variables : (f : Flat) → (shape f).variables ≤ 4096
shape-variables f = let h = f.few_variables in omega (arith, h, length-map f.variables variable_of)

shape-tests : (f : Flat) → (shape f).tests ≤ 4096
shape-tests f = let h = few-tests f in omega (arith, h, tests-count f.variables)

-- no list has more rows than a document gives it
record AreFew (o : Outline) : Type 0 where
  entry : o.entry ≤ 1024
  first : o.first ≤ 1024
  around : o.around ≤ 1024
  state : o.state ≤ 1024

-- where a turn is needed there is one
needed-turn : (l : Location) (b : Bool) → has_turn l.entries ≡ b
    → (has_turn l.entries ≡ false → (l.first ≡ []) × (l.around ≡ []) × (l.by_first ≡ [])) → needs_turn (front_of l) ≡ true → b ≡ true
needed-turn l true e f need = refl
needed-turn l false e f need =
    let p = f e in
    differ (needs_turn (front_of l)) need
    (λ i. (nat_lt 0 (length (p.0 i)) || nat_lt 0 (length (p.1 i))) || nat_lt 0 (length (p.2 i)))

module _ (s : Shape) (small : s.variables ≤ 4096) (few_tests : s.tests ≤ 4096) (locations : ℕ) (few : locations ≤ 4096) (full : Known)
    (sound : Sound locations full) where
  front-right : (i low high : ℕ) (l : Location) → LocationFits s locations full i l → low ≤ length l.entry → length l.entry ≤ high → high ≤ 1024
      → Spells (front_rule s low high) (front_of l) (front_records (front_of l) (number_of (length l.entries) ∷ []))
  front-right i low high l fits least_low least_high bound =
      let number : List Fields = number_of (length l.entries) ∷ [] in
      let few_entry = fits.few_entry in
      let few_entries = fits.few in
      parts-bind (a_diagram s (codes "control") true) (after_control s low high) l.control (front_of l) (diagram_record (codes "control") l.control ∷ [])
      (row_records (lists_of l) (map by_record l.by_entry ++ second_records (front_of l) number))
      (diagram-right s small (codes "control") refl true l.control fits.control)
      (subst (Spells (after_control s low high l.control) (front_of l))
      (row-records-more (lists_of l) [] (map by_record l.by_entry ++ second_records (front_of l) number))
      (parts-bind (row_lists s.memories low high) (after_lists l.control) (lists_of l) (front_of l) (row_records (lists_of l) [])
      (map by_record l.by_entry ++ second_records (front_of l) number)
      (lists-right-of s.memories low high (lists_of l) least_low least_high (omega (arith, bound)) fits.rows)
      (parts-bind (times (length l.state) (a_proof (2 ^ 30) (length l.entry))) (after_proofs l.control (lists_of l)) l.by_entry (front_of l)
      (map by_record l.by_entry)
      (second_records (front_of l) number)
      (subst (λ n. Spells (times n (a_proof (2 ^ 30) (length l.entry))) l.by_entry (map by_record l.by_entry)) fits.counted
      (proofs-right (2 ^ 30) (length l.entry) (omega arith) (omega (arith, few_entry)) l.by_entry fits.by_entry))
      (seconds-right l.control (lists_of l) l.by_entry l.by_first (length l.entries) fits.rows.few_first (omega (arith, few_entries)) fits.by_first
      (has_turned (lists_of l)) refl (location-seconds l (has_turn l.entries) refl fits.turned fits.unturned)))))

  -- ---- The multipliers of a `go`.
  learn-follows : (known : Known) (i n : ℕ) → length known ≡ locations → i < locations → Tells full i n → Follows known full → Follows (learn known i n) full
  learn-follows known i n size there told follows j m h = by (eqb j i) refl
    where
      by : (b : Bool) → eqb j i ≡ b → Tells full j m
      by true e =
          let is = eqb-true j i e in
          let here : known_at (learn known i n) i ≡ Some n = get_or-set_same known i (Some n) None (omega (arith, there, size)) in
          let same : n ≡ m = number-is n m (sym here ∙ subst (λ k. Tells (learn known i n) k m) is h) in
          subst (λ k. Tells full k m) (sym is) (told ∙ ap Some same)
      by false e = follows j m (sym (get_or-set_other known i j (Some n) None (eqb-false j i e)) ∙ h)

  -- what comes after a part goes on by these records, whatever of the whole is known then
  abbrev GoesOn : Certificate → (Known → Rule Certificate) → List Fields → Type 0
  GoesOn c then rs = (later : Known) → length later ≡ locations → Follows later full → Spells (then later) c rs

  module _ (c : Certificate) where
    reach-right : (premises target : ℕ) (o : Option ℕ) (reach : List Multipliers) (next : Then (List Multipliers)) (known : Known) (rs : List Fields)
        → premises ≤ 2 ^ 32
        → known_at known target ≡ o → length known ≡ locations → Follows known full → target < locations → Tells full target (length reach)
        → AllByRecursion (ProofFits (2 ^ 30) premises) reach → Starts rs → GoesOn c (next reach) rs
        → Spells (reach_rule premises target o next known) c (map by_record reach ++ rs)
    reach-right premises target (Some n) reach next known rs bound e size follows there told all starts on =
        let same : length reach ≡ n = number-is (length reach) n (sym told ∙ follows target n e) in
        parts-bind (times n (a_proof (2 ^ 30) premises)) (λ reach. next reach known) reach c (map by_record reach) rs
        (subst (λ k. Spells (times k (a_proof (2 ^ 30) premises)) reach (map by_record reach)) same
        (proofs-right (2 ^ 30) premises (omega arith) bound reach all))
        (on known size follows)
    reach-right premises target None reach next known rs bound e size follows there told all starts on =
        let after = on (learn known target (length reach)) (length-set known target (Some (length reach)) ∙ size)
        (learn-follows known target (length reach) size there told follows) in
        let p = starts.parts in
        subst (λ l. Spells (turns 1024 (a_proof (2 ^ 30) premises) (λ reach. next reach (learn known target (length reach)))) c (map by_record reach ++ l))
        (sym p)
        (turns-right (by_form (2 ^ 30) premises) (λ r. done (multipliers_of r)) by_record by-kind 1024 reach
        (λ reach. next reach (learn known target (length reach))) c starts.front starts.rest (sound.small target (length reach) told)
        (no-proof starts.front starts.other)
        (each-right (2 ^ 30) premises (omega arith) bound reach all)
        (subst (λ l. Spells (next reach (learn known target (length reach))) c l) p after))

    -- ---- Entries.
    plain-right : (state : ℕ) (o : Outline) (when : Frozen) (k : EntryKind) (next : Then Entry) (known : Known) (rs : List Fields) → o.state ≡ state
        → state ≤ 1024
        → SetFits s false when → KindFits s locations o full k → is_turn_kind k ≡ false → length known ≡ locations → Follows known full → Starts rs
        → GoesOn c (next (record { condition = when; kind = k })) rs
        → Spells (plain_rule s locations o.state next known) c (kind_records when k ++ rs)
    plain-right state o when (Dead by) next known rs is bound set fits plain size follows starts on = (
      refl,
      parts-bind (a_diagram s (codes "when") false) (λ when. bind (a_proof 1 (o.state + s.tests)) (λ by. next (dead_entry when by) known)) when c
          (diagram_record (codes "when") when ∷ []) (by_record by ∷ rs) (diagram-right s small (codes "when") refl false when set)
          (parts-bind (a_proof 1 (o.state + s.tests)) (λ by. next (dead_entry when by) known) by c (by_record by ∷ []) rs
          (proof-right 1 (o.state + s.tests) (omega arith) (omega (arith, bound, is, few_tests)) by fits) (on known size follows)),
    )
    plain-right state o when (Go target reach) next known rs is bound set fits plain size follows starts on =
        let there = fits.0 in
        let told = natural-is (decimal target) target (omega (arith, there, few)) refl in (
          go-fault locations target there (omega (arith, there, few)),
          subst (λ n. Spells (go_rule s o.state n next known) c (diagram_record (codes "when") when ∷ (map by_record reach ++ rs))) (sym told)
              (parts-bind (a_diagram s (codes "when") false) (λ when. reach_rule (o.state + s.tests) target (known_at known target)
              (λ reach. next (go_entry target when reach)) known) when c (diagram_record (codes "when") when ∷ []) (map by_record reach ++ rs)
              (diagram-right s small (codes "when") refl false when set)
              (reach-right (o.state + s.tests) target (known_at known target) reach (λ reach. next (go_entry target when reach)) known rs
              (omega (arith, bound, is, few_tests)) refl size follows there fits.1 fits.2 starts on)),
        )
    plain-right state o when (Loop first before around rest) next known rs is bound set fits plain size follows starts on = cc

    -- a part of a turn
    part-right : (rows n : ℕ) (ms : List Multipliers) → rows ≤ 2048 → length ms ≡ n → AllByRecursion (ProofFits (2 ^ 30) (rows + s.tests)) ms
        → Spells (a_part s rows n) ms (map by_record ms)
    part-right rows n ms bound size all =
        subst (λ k. Spells (times k (a_proof (2 ^ 30) (rows + s.tests))) ms (map by_record ms)) size
        (proofs-right (2 ^ 30) (rows + s.tests) (omega arith) (omega (arith, bound, few_tests)) ms all)

    turn-parts : (o : Outline) (when : Frozen) (first before around state : List Multipliers) → AreFew o → SetFits s false when
        → TurnFits s o first before around state
        → Spells (whole_turn s o) (turn_entry when first before around state) (kind_records when (Loop first before around state))
    turn-parts o when first before around state small_rows set fits =
        let e : Entry = turn_entry when first before around state in
        let r4 : List Fields = map by_record state in
        let r3 : List Fields = map by_record around ++ r4 in
        let r2 : List Fields = map by_record before ++ r3 in
        let r1 : List Fields = map by_record first ++ r2 in
        let l0 = small_rows.entry in
        let l1 = small_rows.first in
        let l2 = small_rows.around in
        let l3 = small_rows.state in
        parts-bind (exactly (codes "loop" ∷ [])) (λ u. turn_rule s o) tt e ((codes "loop" ∷ []) ∷ []) (diagram_record (codes "when") when ∷ r1)
        (exactly-right (codes "loop" ∷ []) refl)
        (parts-bind (a_diagram s (codes "when") false) (after_when s o) when e (diagram_record (codes "when") when ∷ []) r1
        (diagram-right s small (codes "when") refl false when set)
        (parts-bind (a_part s o.entry o.first) (after_one s o when) first e (map by_record first) r2
        (part-right o.entry o.first first (omega (arith, l0)) fits.first_size fits.first_fit)
        (parts-bind (a_part s o.first o.around) (after_second s o when first) before e (map by_record before) r3
        (part-right o.first o.around before (omega (arith, l1)) fits.before_size fits.before_fit)
        (parts-bind (a_part s (o.around + o.state) o.around) (after_third s o when first before) around e (map by_record around) r4
        (part-right (o.around + o.state) o.around around (omega (arith, l2, l3)) fits.around_size fits.around_fit)
        (subst (λ l. Spells (after_third s o when first before around) e l) (append-nil (map by_record state))
        (parts-bind (a_part s (o.around + o.state) o.state) (λ state. done (turn_entry when first before around state)) state e (map by_record state) []
        (part-right (o.around + o.state) o.state state (omega (arith, l2, l3)) fits.state_size fits.state_fit) (refl, refl)))))))

    turn-right : (o : Outline) (when : Frozen) (k : EntryKind) (next : Then Entry) (known : Known) (rs : List Fields) → AreFew o
        → SetFits s false when → KindFits s locations o full k → is_turn_kind k ≡ true → length known ≡ locations → Follows known full
        → GoesOn c (next (record { condition = when; kind = k })) rs
        → Spells (turn_then s o next known) c (kind_records when k ++ rs)
    turn-right o when (Loop first before around state) next known rs small_rows set fits turn size follows on =
        parts-bind (whole_turn s o) (λ e. next e known) (turn_entry when first before around state) c
        (kind_records when (Loop first before around state)) rs (turn-parts o when first before around state small_rows set fits) (on known size follows)
    turn-right o when (Dead by) next known rs small_rows set fits turn size follows on = cc
    turn-right o when (Go target reach) next known rs small_rows set fits turn size follows on = cc

    abbrev next_turn : Outline → Then Entry → Known → Fields → Rule Certificate
    next_turn o next known r = bind (turn_rule s o) (λ e. next e known)

    -- a turn goes by the first part, and each other entry by the second
    any-turn : (o : Outline) (when : Frozen) (k : EntryKind) (next : Then Entry) (known : Known) (rs : List Fields) → is_turn_kind k ≡ true
        → Spells (turn_then s o next known) c (kind_records when k ++ rs)
        → Spells (either (turn_then s o next known) (plain_rule s locations o.state next known)) c (kind_records when k ++ rs)
    any-turn o when (Loop first before around state) next known rs turn h =
        either-first (fixed (codes "loop" ∷ []) ∷ []) (next_turn o next known) (plain_rule s locations o.state next known) c (codes "loop" ∷ [])
        (diagram_record (codes "when") when ∷ ((map by_record first ++ (map by_record before ++ (map by_record around ++ map by_record state))) ++ rs))
        (fixed (codes "loop" ∷ [])) refl h
    any-turn o when (Dead by) next known rs turn h = cc
    any-turn o when (Go target reach) next known rs turn h = cc

    any-plain : (o : Outline) (when : Frozen) (k : EntryKind) (next : Then Entry) (known : Known) (rs : List Fields) → is_turn_kind k ≡ false
        → Spells (plain_rule s locations o.state next known) c (kind_records when k ++ rs)
        → Spells (either (turn_then s o next known) (plain_rule s locations o.state next known)) c (kind_records when k ++ rs)
    any-plain o when (Dead by) next known rs plain h =
        either-second (fixed (codes "loop" ∷ []) ∷ []) (next_turn o next known) (plain_rule s locations o.state next known) c (codes "dead" ∷ [])
        (diagram_record (codes "when") when ∷ by_record by ∷ rs) refl h
    any-plain o when (Go target reach) next known rs plain h =
        either-second (fixed (codes "loop" ∷ []) ∷ []) (next_turn o next known) (plain_rule s locations o.state next known) c (codes "go" ∷ decimal target ∷ [])
        (diagram_record (codes "when") when ∷ (map by_record reach ++ rs)) refl h
    any-plain o when (Loop first before around state) next known rs plain h = cc

    kind-right : (o : Outline) (kind : Kinds) (when : Frozen) (k : EntryKind) (next : Then Entry) (known : Known) (rs : List Fields) → AreFew o
        → SetFits s false when → KindFits s locations o full k → Obeys kind (is_turn_kind k) → length known ≡ locations → Follows known full → Starts rs
        → GoesOn c (next (record { condition = when; kind = k })) rs
        → Spells (entry_rule s locations o kind next known) c (kind_records when k ++ rs)
    kind-right o kinds.Plain when k next known rs few_rows set fits obeys size follows starts on =
        plain-right o.state o when k next known rs refl few_rows.state set fits obeys size follows starts on
    kind-right o kinds.Turn when k next known rs few_rows set fits obeys size follows starts on =
        turn-right o when k next known rs few_rows set fits obeys size follows on
    kind-right o kinds.Any when k next known rs few_rows set fits obeys size follows starts on = by (is_turn_kind k) refl
      where
        by : (b : Bool) → is_turn_kind k ≡ b
            → Spells (either (turn_then s o next known) (plain_rule s locations o.state next known)) c (kind_records when k ++ rs)
        by true e = any-turn o when k next known rs e (turn-right o when k next known rs few_rows set fits e size follows on)
        by false e =
            any-plain o when k next known rs e
            (plain-right o.state o when k next known rs refl few_rows.state set fits e size follows starts on)

    entries-right : (o : Outline) (needed : Bool) (es before : List Entry) (next : Then (List Entry)) (known : Known) (rs : List Fields) → AreFew o
        → AllByRecursion (EntryFits s locations o full) es → (has_turn es ≡ true → o.turns ≡ true) → (needed ≡ true → has_turn es ≡ true)
        → length known ≡ locations → Follows known full → Starts rs
        → GoesOn c (next (before ++ es)) rs
        → Spells (entries_rule s locations o needed (length es) before next known) c (flat_map entry_records es ++ rs)
    entries-right o needed [] before next known rs few_rows all may must size follows starts on =
        subst (λ p. Spells p c rs) (sym (entries-none s locations o needed before next known))
        (subst (λ l. Spells (next l known) c rs) (append-nil before) (on known size follows))
    entries-right o needed (e ∷ es) before next known rs few_rows all may must size follows starts on =
        let still : Bool = needed && not (is_turn e) in
        subst (λ p. Spells p c ((entry_records e ++ flat_map entry_records es) ++ rs)) (sym (entries-suc s locations o needed (length es) before next known))
        (subst (Spells (entry_rule s locations o (kinds_at o.turns needed (length es))
        (λ e. entries_rule s locations o (needed && not (is_turn e)) (length es) (before ++ e ∷ []) next) known) c)
        (sym (append_assoc (entry_records e) (flat_map entry_records es) rs))
        (kind-right o (kinds_at o.turns needed (length es)) e.condition e.kind
        (λ e. entries_rule s locations o (needed && not (is_turn e)) (length es) (before ++ e ∷ []) next) known
        (flat_map entry_records es ++ rs) few_rows all.0.condition all.0.kind
        (may-obey o.turns needed (is_turn e) (has_turn es) (length es) may must (λ z. none-turns es z))
        size follows (entries-start es rs starts)
        (λ later n f. entries-right o still es (before ++ e ∷ []) next later rs few_rows all.1 (λ t. later-turns (is_turn e) (has_turn es) o.turns may t)
        (λ t. still-needed needed (is_turn e) (has_turn es) must t) n f starts
        (λ last m g. subst (λ l. Spells (next l last) c rs) (sym (append_assoc before (e ∷ []) es)) (on last m g)))))

    -- ---- Locations.
    location-right : (i : ℕ) (l : Location) (next : Then Location) (known : Known) (rs : List Fields) → i < locations → LocationFits s locations full i l
        → length known ≡ locations → Follows known full → Starts rs → GoesOn c (next l) rs
        → Spells (location_rule s locations i next known) c (location_records l ++ rs)
    location-right i l next known rs there fits size follows starts on =
        let few_entry = fits.few_entry in
        let ends = ends-right (known_at known i) (length l.entry) few_entry (λ n e. number-is n (length l.entry) (sym (follows i n e) ∙ fits.told)) in
        subst (Spells (location_rule s locations i next known) c)
        (front-records-more (front_of l) (number_of (length l.entries) ∷ []) (flat_map entry_records l.entries ++ rs)
        ∙ sym (front-records-more (front_of l) (cases_records l.entries) rs))
        (parts-bind (front_rule s (low_of (known_at known i)) (high_of (known_at known i))) (after_front s locations i next known) (front_of l) c
        (front_records (front_of l) (number_of (length l.entries) ∷ [])) (flat_map entry_records l.entries ++ rs)
        (front-right i (low_of (known_at known i)) (high_of (known_at known i)) l fits ends.0 ends.1 ends.2)
        (entries-right (outline_of l) (needs_turn (front_of l)) l.entries [] (λ entries. next (location_of (front_of l) entries))
        (learn known i (length l.entry)) rs
        (record { entry = few_entry; first = fits.rows.few_first; around = fits.rows.few_around; state = fits.rows.few_state })
        fits.entries (λ t. eq-eqb (length l.by_first) (length l.state) (fits.turned t))
        (λ need. needed-turn l (has_turn l.entries) refl fits.unturned need)
        (length-set known i (Some (length l.entry)) ∙ size) (learn-follows known i (length l.entry) size there fits.told follows) starts
        on))

    locations-right : (ls before : List Location) (known : Known) → before ++ ls ≡ c.locations → length before + length ls ≡ locations
        → ((k : ℕ) (l : Location) → slice_get ls k ≡ Some l → LocationFits s locations full (length before + k) l)
        → length known ≡ locations → Follows known full
        → Spells (locations_rule s locations (length ls) before known) c (flat_map location_records ls ++ last_record ∷ [])
    locations-right [] before known same count fits size follows =
        subst (λ p. Spells p c (last_record ∷ [])) (sym (locations-none s locations before known))
        (parts-bind (exactly last_record) (λ e. done (record { locations = before })) tt c (last_record ∷ []) [] (exactly-right last_record refl)
        (refl, let e = sym (sym (append-nil before) ∙ same) in λ i. record { locations = e i }))
    locations-right (l ∷ ls) before known same count fits size follows =
        let here : length before + 0 ≡ length before = omega arith in
        subst (λ p. Spells p c ((location_records l ++ flat_map location_records ls) ++ last_record ∷ []))
        (sym (locations-suc s locations (length ls) before known))
        (subst (Spells (location_rule s locations (length before) (λ l. locations_rule s locations (length ls) (before ++ l ∷ [])) known) c)
        (sym (append_assoc (location_records l) (flat_map location_records ls) (last_record ∷ [])))
        (location-right (length before) l (λ l. locations_rule s locations (length ls) (before ++ l ∷ [])) known
        (flat_map location_records ls ++ last_record ∷ []) (omega (arith, count)) (subst (λ n. LocationFits s locations full n l) here (fits 0 l refl))
        size follows (locations-start ls)
        (λ later n f. let pushed = length_push before l in
        locations-right ls (before ++ l ∷ []) later (append_assoc before (l ∷ []) ls ∙ same) (omega (arith, count, pushed))
        (λ k x e. let next : length before + suc k ≡ length (before ++ l ∷ []) + k = omega (arith, pushed) in
        subst (λ n. LocationFits s locations full n x) next (fits (suc k) x e)) n f)))

-- ---- What names the flat system.
text-joined : (a b : List ℕ) → is_plain_text a ≡ true → is_plain_text b ≡ true → is_plain_text (a ++ b) ≡ true
text-joined [] b h k = k
text-joined (x ∷ a) b h k =
    let p = both_of (nat_le 32 x && nat_le x 126) (is_plain_text a) h in ap (λ c. c && is_plain_text (a ++ b)) p.0 ∙ text-joined a b p.1 k

name-at-plain : (is : List FlatInput) (j : ℕ) → list_all (λ i. is_name i.name) is ≡ true → is_plain_text (name_at is j) ≡ true
name-at-plain [] j h = refl
name-at-plain (i ∷ is) zero h = name-plain i.name (both_of (is_name i.name) (list_all (λ (i : FlatInput). is_name i.name) is) h).0
name-at-plain (i ∷ is) (suc j) h = name-at-plain is j (both_of (is_name i.name) (list_all (λ (i : FlatInput). is_name i.name) is) h).1

side-plain : (x : Side) → is_plain_text (side_text x) ≡ true
side-plain side.AtMost = refl
side-plain side.AtLeast = refl

pub bit-plain : (is : List FlatInput) → list_all (λ i. is_name i.name) is ≡ true → (b : Bit) → is_plain_text (bit_text is b) ≡ true
bit-plain is h (bit.Tick p) = text-joined (codes "tick:") (dotted p.sites) refl (dotted-plain p.sites)
bit-plain is h (bit.Kept p b) =
    text-joined (codes "memory:") (dotted p.sites ++ (codes ":" ++ decimal b)) refl
    (text-joined (dotted p.sites) (codes ":" ++ decimal b) (dotted-plain p.sites) (text-joined (codes ":") (decimal b) refl (decimal-plain b)))
bit-plain is h (bit.Input j b) =
    text-joined (codes "input:") (name_at is j ++ (codes ":" ++ decimal b)) refl
    (text-joined (name_at is j) (codes ":" ++ decimal b) (name-at-plain is j h) (text-joined (codes ":") (decimal b) refl (decimal-plain b)))
bit-plain is h (bit.Test p x) =
    text-joined (codes "test:") (dotted p.sites ++ (codes ":" ++ side_text x)) refl
    (text-joined (dotted p.sites) (codes ":" ++ side_text x) (dotted-plain p.sites) (text-joined (codes ":") (side_text x) refl (side-plain x)))
bit-plain is h _ = refl

pub column-plain : (is : List FlatInput) → list_all (λ i. is_name i.name) is ≡ true → (x : Column) → is_plain_text (column_text is x) ≡ true
column-plain is h (column.Kept p) = text-joined (codes "memory:") (dotted p.sites) refl (dotted-plain p.sites)
column-plain is h (column.Input j) = text-joined (codes "input:") (name_at is j) refl (name-at-plain is j h)

pub each-plain : {A : Type 0} (text : A → List ℕ) → ((a : A) → is_plain_text (text a) ≡ true) → (xs : List A) → is_plain (map text xs) ≡ true
each-plain text h [] = refl
each-plain text h (x ∷ xs) = ap (λ b. b && is_plain (map text xs)) (h x) ∙ each-plain text h xs

head-right : (f : Flat) → IsTold f → (n : ℕ) → n ≤ 4096
    → Spells (head_rule f) n (first_record ∷ (codes "main" ∷ f.main ∷ []) ∷ (codes "bits" ∷ bit_texts f) ∷ (codes "columns" ∷ column_texts f)
    ∷ (codes "locations" ∷ decimal n ∷ []) ∷ [])
head-right f told n few =
    let k4 : ⊤ → Rule ℕ = λ d. counts (codes "locations") 0 4096 in
    let k3 : ⊤ → Rule ℕ = λ c. bind (columns_rule f) k4 in
    let k2 : ⊤ → Rule ℕ = λ b. bind (bits_rule f) k3 in
    let k1 : ⊤ → Rule ℕ = λ a. bind (names (codes "main") f.main) k2 in
    let r4 : List Fields = (codes "locations" ∷ decimal n ∷ []) ∷ [] in
    let r3 : List Fields = (codes "columns" ∷ column_texts f) ∷ r4 in
    let r2 : List Fields = (codes "bits" ∷ bit_texts f) ∷ r3 in
    let r1 : List Fields = (codes "main" ∷ f.main ∷ []) ∷ r2 in
    parts-bind (exactly first_record) k1 tt n (first_record ∷ []) r1 (exactly-right first_record refl)
    (parts-bind (names (codes "main") f.main) k2 tt n ((codes "main" ∷ f.main ∷ []) ∷ []) r2
    (names-right (codes "main") f.main refl (name-plain f.main told.main))
    (parts-bind (bits_rule f) k3 tt n ((codes "bits" ∷ bit_texts f) ∷ []) r3
    (lists-right (codes "bits") (bit_texts f) (each-plain (bit_text f.inputs) (bit-plain f.inputs told.inputs) f.variables))
    (parts-bind (columns_rule f) k4 tt n ((codes "columns" ∷ column_texts f) ∷ []) r4
    (lists-right (codes "columns") (column_texts f) (each-plain (column_text f.inputs) (column-plain f.inputs told.inputs) f.columns))
    (counts-right (codes "locations") 0 4096 n refl (omega arith) few (omega arith)))))

-- ---- The whole.
nothing-told : (n i m : ℕ) → Tells (replicate n None) i m → ⊥
nothing-told n i m h = clash (sym (all-none n i) ∙ h)
  where
    all-none : (n i : ℕ) → known_at (replicate n None) i ≡ None
    all-none zero i = refl
    all-none (suc n) zero = refl
    all-none (suc n) (suc i) = all-none n i

    clash : None ≡ Some m → ⊥
    clash e = cc

pub document-right : (f : Flat) (c : Certificate) → IsTold f → (few : length c.locations ≤ 4096) → AllLocated (shape f) (length c.locations) c
    → IsDocument (certificate_rule f) (certificate_records f c) c
document-right f c told few a =
    let n = length c.locations in
    spells-document (certificate_rule f) c (certificate_records f c)
    (parts-bind (head_rule f) (all_locations f) n c
    (first_record ∷ (codes "main" ∷ f.main ∷ []) ∷ (codes "bits" ∷ bit_texts f) ∷ (codes "columns" ∷ column_texts f) ∷ (codes "locations" ∷ decimal n ∷ [])
    ∷ [])
    (flat_map location_records c.locations ++ last_record ∷ []) (head-right f told n few)
    (locations-right (shape f) (shape-variables f) (shape-tests f) n few a.known a.sound c c.locations [] (replicate n None) refl (omega arith)
    (λ k l e. let same : k ≡ 0 + k = omega arith in subst (λ m. LocationFits (shape f) n a.known m l) same (a.fits k l e)) (length-replicate n None)
    (λ i m h. absurd (nothing-told n i m h))))
