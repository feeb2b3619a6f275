-- A certificate that has a document has the counts and ranges of one.
use Rattle.std.proofs.Common.{◌++◌, ◌≡◌, ◌+◌, ◌*◌, ◌/◌, ◌%◌, ◌^◌, ◌<◌, ◌≤◌, ℕ, zero, suc, Bool, true, false, List, [], ◌∷◌, length, get_or, refl, sym, ap, ◌∙◌}
use Rattle.std.proofs.Common.{subst, arith}
use Rattle.std.proofs.lemmas.Bool.{eqb-true, leb-true, ltb-true, ltb-false, false_from_ne_true}
use Rattle.std.proofs.{lemmas.List.length-append, lemmas.List.length-replicate, lemmas.List.get_or-replicate, lemmas.List.get_or_past}
use Rattle.std.proofs.{lemmas.Option.slice_get-get_or}
use Rattle.std.specs.Prelude.{flat_map, decimal, ◌||◌, nat_eq, nat_le, nat_lt, ℤ, pos, Option, Some, None, slice_get, replicate, codes}
use Rattle.std.specs.List.{All, AllByRecursion}
use Rattle.rv_diagram.specs.{Nodes.node_at, declared.frozen.Frozen.Frozen}
use Rattle.rv_rows.specs.{declared.linear.Row.Row, declared.farkas.Multipliers.Multipliers}
use Rattle.rv_flat.specs.declared.flat.Flat.{Flat}
use Rattle.rv_control.specs.Control.{control_of}
use Rattle.rv_proofs.specs.Scopes.{Implication, Wanted, refutation, before, after, each, implications, rows_into}
use Rattle.rv_proofs.specs.Counts.{HasLoop, HasKindCounts, HasLocationCounts, HasFree}
use Rattle.rv_proofs.specs.Ranges.{AreKept, IsRecord, HasDivisor, IsControlSet, IsCondition, IsLocationInRange}
use Rattle.rv_proofs.specs.declared.certificate.EntryKind.TheVariants.{Dead, Go, Loop}
use Rattle.rv_proofs.specs.{Systems.System, Systems.IsState, declared.certificate.Certificate.Certificate, declared.certificate.Location.Location}
use Rattle.rv_proofs.specs.{declared.certificate.Entry.Entry, declared.certificate.EntryKind.EntryKind}
use Rattle.rv_invfile.specs.{Rules.Fields, Rules.IsDocument, Parts.bind, Forms.exactly, Forms.names, Forms.counts, Spells.Spells}
use Rattle.rv_invfile.proofs.Spelled.{document-spells, bind-parts}
use Rattle.rv_invfile.proofs.Written.{counts-written, exactly-written, names-written, lists-written, number-is}
use Rattle.rv_invariant.specs.Certificates.{first_record, last_record, location_records, certificate_records, IsHeldLocation, FitsCertificate, bits_rule}
use Rattle.rv_invariant.specs.Certificates.{columns_rule, head_rule, all_locations, certificate_rule}
use Rattle.rv_invariant.specs.{Continues.Known, Shapes.shape, Shapes.shape_of, Shapes.is_state, Naming.bit_texts, Naming.column_texts}
use Rattle.rv_invariant.proofs.Knowing.{KindFits, TurnFits, EntryFits, LocationFits, AllLocated, Sound, outline_of, all-located, all-map}
use Rattle.rv_invariant.proofs.Turning.{has_turn, has-turn, has-loop, all-joined}
use Rattle.rv_invariant.proofs.{Ranging.SetFits, Ranging.KeptRow, Ranging.ProofFits, Ranging.is-record, Spelling.all-of}
use Rattle.rv_base.proofs.Truths.{both_of}

all-at : {A : Type 0} (P : A → Type 0) (xs : List A) (j : ℕ) (x : A) → AllByRecursion P xs → slice_get xs j ≡ Some x → P x
all-at P [] j x h e = cc
all-at P (y ∷ ys) zero x h e = subst P (same y x e) h.0
  where
    same : {A : Type 0} (a b : A) → Some a ≡ Some b → a ≡ b
    same a b e = cc
all-at P (y ∷ ys) (suc j) x h e = all-at P ys j x h.1 e

-- ---- Each list of multipliers has as many as there are rows to prove.
module _ (s : System) (locations : ℕ) (c : Certificate) (a : AllLocated (shape_of s) locations c) where
  kind-counts : (l : Location) (k : EntryKind) → KindFits (shape_of s) locations (outline_of l) a.known k → HasKindCounts c l k
  kind-counts l (Dead by) h = tt
  kind-counts l (Go target reach) h =
      let size = a.size in
      let there = slice_get-get_or c.locations target l (omega (arith, h.0, size)) in
      let into = a.fits target (get_or c.locations target l) there in
      (get_or c.locations target l, there, number-is (length reach) (length (get_or c.locations target l).entry) (sym h.1 ∙ into.told))
  kind-counts l (Loop first before_all around state) h = (h.first_size, h.before_size, h.around_size, h.state_size)

  module _ (k : ℕ) (l : Location) (fits : LocationFits (shape_of s) locations a.known k l) where
    entry-at : (j : ℕ) (e : Entry) → slice_get l.entries j ≡ Some e → EntryFits (shape_of s) locations (outline_of l) a.known e
    entry-at j e h = all-at (EntryFits (shape_of s) locations (outline_of l) a.known) l.entries j e fits.entries h

    no-turn : ¬ HasLoop l → has_turn l.entries ≡ false
    no-turn n = false_from_ne_true (has_turn l.entries) (λ e. n (has-loop l e))

    location-counts : HasLocationCounts c l
    location-counts = record {
      by_entry = fits.counted;
      by_first = record { some = λ h. fits.turned (has-turn l h); none = λ n. (fits.unturned (no-turn n)).2 };
      entries = λ j e h. kind-counts l e.kind (entry-at j e h).kind;
    }

    free : ¬ HasLoop l → (l.first ≡ []) × (l.around ≡ [])
    free n = let u = fits.unturned (no-turn n) in (u.0, u.1)

    held : IsHeldLocation l
    held = record { control = fits.control.held; conditions = λ j e h. (entry-at j e h).condition.held }

-- ---- What diagrams read.
module _ (s : System) where
  state-bit : (x : ℕ) → is_state (shape_of s) x ≡ true → IsState s x
  state-bit x h =
      let p = both_of (nat_lt x (2 * s.states)) (nat_eq (x % 2) 0) h in
      let low = ltb-true x (2 * s.states) p.0 in
      let even = eqb-true (x % 2) 0 p.1 in
      (x / 2, omega (arith, low, even), omega (arith, even))

  no-copy : (x : ℕ) (b : Bool) → nat_le (2 * s.states) x ≡ b → (b || nat_eq (x % 2) 0) ≡ true → (i : ℕ) → i < s.states → x ≡ 2 * i + 1 → ⊥
  no-copy x true e h i l odd = let past = leb-true (2 * s.states) x e in omega (arith, past, l, odd)
  no-copy x false e h i l odd = let even = eqb-true (x % 2) 0 h in omega (arith, even, odd)

  control-set : (set : Frozen) → SetFits (shape_of s) true set → IsControlSet s set
  control-set set h = record { ordered = h.ordered; states = λ n l. state-bit (node_at set.nodes n).var (h.may n l) }

  condition-set : (set : Frozen) → SetFits (shape_of s) false set → IsCondition s set
  condition-set set h = record {
    ordered = h.ordered;
    read = λ n l. (h.ordered.low n l, no-copy (node_at set.nodes n).var (nat_le (2 * s.states) (node_at set.nodes n).var) refl (h.may n l));
  }

  -- ---- What entries prove.
  abbrev Proved : Implication → Type 0
  Proved i = IsRecord (length i.given + s.tests) i.by × HasDivisor i.wanted i.by.divisor

  refuted : (given : List Row) (m : Multipliers) → ProofFits 1 (length given + s.tests) m → Proved (record { given = given; wanted = refutation; by = m })
  refuted given m h =
      let low = h.positive in
      let high = h.small in
      let one : h.divisor ≡ 1 = omega (arith, low, high) in
      (is-record 1 (length given + s.tests) m (omega arith) h, h.divides ∙ ap pos one)

  -- what is wanted of a row leaves the divisor free
  abbrev IsFree : (Row → Wanted) → Type 0
  IsFree want = (r : Row) (d : ℤ) → HasDivisor (want r) d

  each-proved : (want : Row → Wanted) (free : IsFree want) (given rows : List Row) (ms : List Multipliers)
      → AllByRecursion (ProofFits (2 ^ 30) (length given + s.tests)) ms
      → AllByRecursion Proved (each want given rows ms)
  each-proved want free given [] ms h = tt
  each-proved want free given (r ∷ rs) [] h = tt
  each-proved want free given (r ∷ rs) (m ∷ ms) h = (
    (is-record (2 ^ 30) (length given + s.tests) m (omega arith) h.0, free r m.divisor),
    each-proved want free given rs ms h.1,
  )

  turn-proved : (l : Location) (first before_all around state : List Multipliers)
      → TurnFits (shape_of s) (outline_of l) first before_all around state
      → AllByRecursion Proved (each after l.entry l.first first ++ (each before l.first l.around before_all
      ++ (each after (l.around ++ l.state) l.around around ++ each after (l.around ++ l.state) l.state state)))
  turn-proved l first before_all around state h =
      let after_free : IsFree after = λ r d. tt in
      let before_free : IsFree before = λ r d. tt in
      let size : length l.around + length l.state ≡ length (l.around ++ l.state) = sym (length-append l.around l.state) in
      let inner = λ (ms : List Multipliers). λ (f : AllByRecursion (ProofFits (2 ^ 30) (length l.around + length l.state + s.tests)) ms).
      subst (λ n. AllByRecursion (ProofFits (2 ^ 30) (n + s.tests)) ms) size f in
      all-joined Proved (each after l.entry l.first first) (each before l.first l.around before_all
      ++ (each after (l.around ++ l.state) l.around around ++ each after (l.around ++ l.state) l.state state))
      (each-proved after after_free l.entry l.first first h.first_fit)
      (all-joined Proved (each before l.first l.around before_all)
      (each after (l.around ++ l.state) l.around around ++ each after (l.around ++ l.state) l.state state)
      (each-proved before before_free l.first l.around before_all h.before_fit)
      (all-joined Proved (each after (l.around ++ l.state) l.around around) (each after (l.around ++ l.state) l.state state)
      (each-proved after after_free (l.around ++ l.state) l.around around (inner around h.around_fit))
      (each-proved after after_free (l.around ++ l.state) l.state state (inner state h.state_fit))))

  kind-proved : (locations : ℕ) (known : Known) (c : Certificate) (l : Location) (k : EntryKind)
      → KindFits (shape_of s) locations (outline_of l) known k → AllByRecursion Proved (implications c l k)
  kind-proved locations known c l (Dead by) h = (refuted l.state by h, tt)
  kind-proved locations known c l (Go target reach) h = each-proved after (λ r d. tt) l.state (rows_into (slice_get c.locations target)) reach h.2
  kind-proved locations known c l (Loop first before_all around state) h = turn-proved l first before_all around state h

  kept : (rows : List Row) → length rows ≤ 1024 → AllByRecursion (KeptRow s.memories) rows → AreKept s rows
  kept rows few h = (all-of (KeptRow s.memories) rows h, few)

  recorded : (premises : ℕ) (ms : List Multipliers) → AllByRecursion (ProofFits (2 ^ 30) premises) ms → All (IsRecord premises) ms
  recorded premises ms h =
      all-of (IsRecord premises) ms
      (all-map (ProofFits (2 ^ 30) premises) (IsRecord premises) (λ m f. is-record (2 ^ 30) premises m (omega arith) f) ms h)

  location-range : (locations : ℕ) (c : Certificate) (a : AllLocated (shape_of s) locations c) (k : ℕ) (l : Location)
      → LocationFits (shape_of s) locations a.known k l → IsLocationInRange s c l
  location-range locations c a k l fits = record {
    control = control-set l.control fits.control;
    entry = kept l.entry fits.few_entry fits.rows.entry;
    first = kept l.first fits.rows.few_first fits.rows.first;
    around = kept l.around fits.rows.few_around fits.rows.around;
    state = kept l.state fits.rows.few_state fits.rows.state;
    by_entry = recorded (length l.entry) l.by_entry fits.by_entry;
    by_first = recorded (length l.first) l.by_first fits.by_first;
    few = fits.few;
    entries = λ j e h. let x = entry-at s locations c a k l fits j e h in record {
      condition = condition-set e.condition x.condition;
      by = all-of Proved (implications c l e.kind) (kind-proved locations a.known c l e.kind x.kind);
    };
  }

-- ---- The whole.
head-few : (f : Flat) (n : ℕ) (rs : List Fields) → Spells (head_rule f) n rs → n ≤ 4096
head-few f n rs h =
    let a = bind-parts (exactly first_record) (λ a. bind (names (codes "main") f.main)
    (λ b. bind (bits_rule f) (λ c. bind (columns_rule f) (λ d. counts (codes "locations") 0 4096)))) n rs h in
    let b = bind-parts (names (codes "main") f.main)
    (λ b. bind (bits_rule f) (λ c. bind (columns_rule f) (λ d. counts (codes "locations") 0 4096))) n a.back a.second in
    let c = bind-parts (bits_rule f) (λ c. bind (columns_rule f) (λ d. counts (codes "locations") 0 4096)) n b.back b.second in
    let d = bind-parts (columns_rule f) (λ d. counts (codes "locations") 0 4096) n c.back c.second in
    (counts-written (codes "locations") 0 4096 n d.back d.second).2

abbrev nothing : Option ℕ
nothing = None

nothing-told : (n i : ℕ) (b : Bool) → nat_lt i n ≡ b → get_or (replicate n nothing) i nothing ≡ nothing
nothing-told n i true e = get_or-replicate n i nothing nothing (ltb-true i n e)
nothing-told n i false e = let past = ltb-false i n e in let size = length-replicate n nothing in get_or_past (replicate n nothing) i nothing
    (omega (arith, past, size))

none-is : (m : ℕ) → None ≡ Some m → ⊥
none-is m e = cc

begins : (n : ℕ) → Sound n (replicate n None)
begins n = record {
  size = length-replicate n None;
  small = λ i m h. absurd (none-is m (sym (nothing-told n i (nat_lt i n) refl) ∙ h));
}

nothing-there : {X : Type 0} (k : ℕ) (l : Location) → slice_get [] k ≡ Some l → X
nothing-there k l e = absurd (clash e)
  where
    clash : None ≡ Some l → ⊥
    clash e = cc

pub documents-fit : (f : Flat) (rs : List Fields) (c : Certificate) → IsDocument (certificate_rule f) rs c → FitsCertificate f c
documents-fit f rs c d =
    let x = bind-parts (head_rule f) (all_locations f) c rs (document-spells (certificate_rule f) c rs d) in
    let few = head-few f x.value x.front x.first in
    let a = (all-located (shape f) x.value x.value [] (replicate x.value None) c x.back (begins x.value) (omega arith)
    (λ k l e. nothing-there k l e) x.second).located in
    let size = a.size in
    record {
      range = record {
        counts = λ k l e. location-counts (control_of f) x.value c a k l (a.fits k l e);
        few = omega (arith, few, size);
        locations = λ k l e. location-range (control_of f) x.value c a k l (a.fits k l e);
      };
      free = λ k l e. free (control_of f) x.value c a k l (a.fits k l e);
      held = λ k l e. held (control_of f) x.value c a k l (a.fits k l e);
    }

pub documents-free : (f : Flat) (rs : List Fields) (c : Certificate) → IsDocument (certificate_rule f) rs c → HasFree c
documents-free f rs c d = (documents-fit f rs c d).free

-- ---- The records of a document.
head-written : (f : Flat) (n : ℕ) (rs : List Fields) → Spells (head_rule f) n rs
    → rs ≡ first_record ∷ (codes "main" ∷ f.main ∷ []) ∷ (codes "bits" ∷ bit_texts f) ∷ (codes "columns" ∷ column_texts f)
    ∷ (codes "locations" ∷ decimal n ∷ []) ∷ []
head-written f n rs h =
    let a = bind-parts (exactly first_record) (λ a. bind (names (codes "main") f.main)
    (λ b. bind (bits_rule f) (λ c. bind (columns_rule f) (λ d. counts (codes "locations") 0 4096)))) n rs h in
    let b = bind-parts (names (codes "main") f.main)
    (λ b. bind (bits_rule f) (λ c. bind (columns_rule f) (λ d. counts (codes "locations") 0 4096))) n a.back a.second in
    let c = bind-parts (bits_rule f) (λ c. bind (columns_rule f) (λ d. counts (codes "locations") 0 4096)) n b.back b.second in
    let d = bind-parts (columns_rule f) (λ d. counts (codes "locations") 0 4096) n c.back c.second in
    a.records ∙ ap (λ l. l ++ a.back) (exactly-written first_record a.value a.front a.first)
    ∙ ap (λ l. first_record ∷ l) (b.records ∙ ap (λ l. l ++ b.back) (names-written (codes "main") f.main b.value b.front b.first)
    ∙ ap (λ l. (codes "main" ∷ f.main ∷ []) ∷ l) (c.records ∙ ap (λ l. l ++ c.back) (lists-written (codes "bits") (bit_texts f) c.value c.front c.first)
    ∙ ap (λ l. (codes "bits" ∷ bit_texts f) ∷ l) (d.records ∙ ap (λ l. l ++ d.back) (lists-written (codes "columns") (column_texts f) d.value d.front d.first)
    ∙ ap (λ l. (codes "columns" ∷ column_texts f) ∷ l) (counts-written (codes "locations") 0 4096 n d.back d.second).0)))

pub documents-written : (f : Flat) (rs : List Fields) (c : Certificate) → IsDocument (certificate_rule f) rs c → rs ≡ certificate_records f c
documents-written f rs c d =
    let x = bind-parts (head_rule f) (all_locations f) c rs (document-spells (certificate_rule f) c rs d) in
    let a = all-located (shape f) x.value x.value [] (replicate x.value None) c x.back (begins x.value) (omega arith) (λ k l e. nothing-there k l e) x.second in
    x.records ∙ ap (λ l. l ++ x.back) (head-written f x.value x.front x.first)
    ∙ ap (λ l. first_record ∷ (codes "main" ∷ f.main ∷ []) ∷ (codes "bits" ∷ bit_texts f) ∷ (codes "columns" ∷ column_texts f) ∷
    (codes "locations" ∷ decimal x.value ∷ []) ∷ l)
    (a.written ∙ ap (λ ls. flat_map location_records ls ++ last_record ∷ []) (sym a.grown))
    ∙ ap (λ n. first_record ∷ (codes "main" ∷ f.main ∷ []) ∷ (codes "bits" ∷ bit_texts f) ∷ (codes "columns" ∷ column_texts f) ∷
    (codes "locations" ∷ decimal n ∷ [])
    ∷ (flat_map location_records c.locations ++ last_record ∷ [])) (sym a.located.size)
