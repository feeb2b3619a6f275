-- A certificate that is assembled of entries in the ranges of a document.
use Rattle.std.proofs.Common.{◌≡◌, ℕ, zero, suc, ◌+◌, ◌<◌, pos, List, [], ◌∷◌, length, get_or, All, Some, slice_get, arith, refl, sym, ap, ◌∙◌, subst, true}
use Rattle.std.proofs.Common.{false, not, Bool, lit≤}
use Rattle.std.proofs.lemmas.List.Elements.{All-nil, All-cons, All-head, All-tail}
use Rattle.std.proofs.{lemmas.Int.ints, lemmas.Option.get_or_from_slice_get, lemmas.Option.same_Some}
use Rattle.rv_diagram.specs.{Nodes.node_at, Nodes.valuation_of, Nodes.IsOrderedOver, declared.frozen.Frozen.Frozen}
use Rattle.rv_rows.specs.{declared.linear.Row.Row, declared.farkas.Multipliers.Multipliers, Tight.Fits}
use Rattle.rv_proofs.specs.{Systems.System, Systems.IsRead, Ranges.IsCondition, Ranges.AreKept, Ranges.IsControlSet, Ranges.IsRecord}
use Rattle.rv_proofs.specs.{Ranges.HasDivisor, Ranges.IsLocationInRange, Samples.by_one, Counts.HasLoop, Counts.IsLoopKind}
use Rattle.rv_proofs.specs.Scopes.{refutation, after, Implication, each, rows_into, implications}
use Rattle.rv_proofs.specs.{declared.certificate.Certificate.Certificate, declared.certificate.Location.Location, declared.certificate.Entry.Entry}
use Rattle.rv_proofs.specs.{declared.certificate.EntryKind.EntryKind, declared.certificate.EntryKind.TheVariants.Dead}
use Rattle.rv_proofs.specs.{declared.certificate.EntryKind.TheVariants.Go, declared.certificate.EntryKind.TheVariants.Loop}
use Rattle.rv_symbolic.specs.Variables.{is_of}
use Rattle.rv_symbolic.proofs.Reading.{read_is}
use Rattle.rv_boxes.specs.Certifying.{IsLocationOf}
use Rattle.rv_boxes.proofs.Shutting.{record_from, IsRanged}
use Rattle.rv_cover.specs.{declared.frame.By.By, declared.frame.Frame.Frame, Entries.IsPlainKind, Entries.IsReadable, Entries.AreShortEntries}
use Rattle.rv_cover.specs.Seeking.{IsDocument, IsFrameFor, IsPlausible}

not_true : (b : Bool) → not b ≡ true → b ≡ false
not_true true e = cc
not_true false e = refl

-- what a condition may read is a condition
condition : (s : System) (way : By) (f : Frame) → IsFrameFor s.variables s.states way f → (set : Frozen) → IsReadable f set → IsCondition s set
condition s way f frame set is = record { ordered = ordered; read = λ n l. read (node_at set.nodes n).var (ordered.low n l) (is.only n l) }
  where
    ordered : IsOrderedOver s.variables set
    ordered = subst (λ (m : ℕ). IsOrderedOver m set) frame.variables_are is.ordered

    read : (x : ℕ) → x < s.variables → valuation_of f.read x ≡ true → IsRead s x
    read x low on = let all = frame.read in read_is s x low (not_true (is_of s.states 1 x) (sym (all.within x low) ∙ on))

abbrev IsIn : System → Implication → Type 0
IsIn s i = IsRecord (length i.given + s.tests) i.by × HasDivisor i.wanted i.by.divisor

each_in : (s : System) (given rows : List Row) (by : List Multipliers) → All (IsRecord (length given + s.tests)) by → All (IsIn s) (each after given rows by)
each_in s given [] by h = All-nil (IsIn s)
each_in s given (r ∷ rs) [] h = All-nil (IsIn s)
each_in s given (r ∷ rs) (m ∷ ms) h = All-cons (IsIn s) (record { given = given; wanted = after r; by = m }) (each after given rs ms)
    (All-head (IsRecord (length given + s.tests)) m ms h, tt) (each_in s given rs ms (All-tail (IsRecord (length given + s.tests)) m ms h))

kind_in : (s : System) (c : Certificate) (l : Location) (kind : EntryKind) → IsPlainKind (length l.state + s.tests) kind
    → All (IsIn s) (implications c l kind)
kind_in s c l (Dead by) (is, one) = All-cons (IsIn s) (record { given = l.state; wanted = refutation; by = by }) [] (is, one) (All-nil (IsIn s))
kind_in s c l (Go target reach) are = each_in s l.state (rows_into (slice_get c.locations target)) reach are
kind_in s c l (Loop first before around state) h = absurd h

no_loop_kind : (n : ℕ) (kind : EntryKind) → IsPlainKind n kind → IsLoopKind kind → ⊥
no_loop_kind n (Dead by) h x = x
no_loop_kind n (Go target reach) h x = x
no_loop_kind n (Loop first before around state) h x = h

unit_record : (n j : ℕ) → j < n → IsRecord n (by_one j)
unit_record n j l = record_from n (by_one j) refl (lit≤ tt)
    (All-cons (IsRanged n) (record { premise = j; by = pos 1 }) [] (l, (omega (arith, ints), omega (arith, ints))) (All-nil (IsRanged n)))
    (All-nil (λ u. j < u.premise), tt)

module _ (s : System) (way : By) (f : Frame) (frame : IsFrameFor s.variables s.states way f) (c : Certificate) (from : Frozen)
    (control : IsControlSet s from) (rows : List Row) (kept : AreKept s rows) (es : List Entry) (n : ℕ) (many : n ≡ length rows + s.tests)
    (short : AreShortEntries f n es) (l : Location) (is : IsLocationOf from rows es l) where
  none_kept : AreKept s []
  none_kept = (All-nil (λ r. (length r.coefficients ≡ s.memories) × Fits r), lit≤ tt)

  none_ones : (k : ℕ) → All (IsRecord k) []
  none_ones k = All-nil (IsRecord k)

  at_entry : (j : ℕ) (e : Entry) → slice_get l.entries j ≡ Some e → slice_get es j ≡ Some e
  at_entry j e at = ap (λ (xs : List Entry). slice_get xs j) (sym is.entries) ∙ at

  ones : All (IsRecord (length l.entry)) l.by_entry
  ones j d low =
      let inside : j < length rows = (let size = is.count in omega (arith, low, size)) in
      let same : length rows ≡ length l.entry = ap length (sym is.entry) in
      let e : get_or l.by_entry j d ≡ by_one j = get_or_from_slice_get l.by_entry j (by_one j) d (is.by_entry j inside) in
      subst (IsRecord (length l.entry)) (sym e) (unit_record (length l.entry) j (omega (arith, inside, same)))

  plain_kind : (j : ℕ) (e : Entry) → slice_get l.entries j ≡ Some e → IsPlainKind (length l.state + s.tests) e.kind
  plain_kind j e at =
      let h = short.each j e (at_entry j e at) in
      let size : n ≡ length l.state + s.tests = many ∙ ap (λ (xs : List Row). length xs + s.tests) (sym is.state) in
      subst (λ (m : ℕ). IsPlainKind m e.kind) size h.kind

  pub no_loop : HasLoop l → ⊥
  no_loop (j, e, at, loop) = no_loop_kind (length l.state + s.tests) e.kind (plain_kind j e at) loop

  pub location_in : IsLocationInRange s c l
  location_in = record {
    control = subst (IsControlSet s) (sym is.control) control;
    entry = subst (AreKept s) (sym is.entry) kept;
    first = subst (AreKept s) (sym is.first) none_kept;
    around = subst (AreKept s) (sym is.around) none_kept;
    state = subst (AreKept s) (sym is.state) kept;
    by_entry = ones;
    by_first = subst (All (IsRecord (length l.first))) (sym is.by_first) (none_ones (length l.first));
    few = let few = short.few in omega (arith, few, ap length is.entries);
    entries = λ j e at. let h = short.each j e (at_entry j e at) in record {
      condition = condition s way f frame e.condition h.condition;
      by = kind_in s c l e.kind (plain_kind j e at);
    };
  }

module _ (s : System) (way : By) (f : Frame) (frame : IsFrameFor s.variables s.states way f) (tests : ℕ) (many : tests ≡ s.tests)
    (first rest : Frozen) (first_set : IsControlSet s first) (rest_set : IsControlSet s rest) (rows : List Row) (kept : AreKept s rows)
    (c : Certificate) (is : IsPlausible f tests first rest rows c) where
  no_rows_kept : AreKept s []
  no_rows_kept = (All-nil (λ r. (length r.coefficients ≡ s.memories) × Fits r), lit≤ tt)

  one_many : (size : ℕ) → size ≡ 0 → tests ≡ size + s.tests
  one_many size none = omega (arith, many, none)

  two_many : length rows + tests ≡ length rows + s.tests
  two_many = omega (arith, many)

  location : (k : ℕ) (l : Location) → slice_get (is.assembled.one ∷ is.assembled.two ∷ []) k ≡ Some l
      → IsLocationInRange s c l × (HasLoop l → ⊥) × (l.first ≡ []) × (l.around ≡ [])
  location zero l at = subst (λ (x : Location). IsLocationInRange s c x × (HasLoop x → ⊥) × (x.first ≡ []) × (x.around ≡ [])) (same_Some is.assembled.one l at) (
    location_in s way f frame c first first_set [] no_rows_kept is.initial tests (one_many 0 refl) is.initial_short is.assembled.one is.assembled.one_is,
    no_loop s way f frame c first first_set [] no_rows_kept is.initial tests (one_many 0 refl) is.initial_short is.assembled.one is.assembled.one_is,
    is.assembled.one_is.first,
    is.assembled.one_is.around,
  )
  location (suc zero) l at = subst (λ (x : Location). IsLocationInRange s c x × (HasLoop x → ⊥) × (x.first ≡ []) × (x.around ≡ []))
      (same_Some is.assembled.two l at) (
        location_in s way f frame c rest rest_set rows kept is.others (length rows + tests) two_many is.others_short is.assembled.two is.assembled.two_is,
        no_loop s way f frame c rest rest_set rows kept is.others (length rows + tests) two_many is.others_short is.assembled.two is.assembled.two_is,
        is.assembled.two_is.first,
        is.assembled.two_is.around,
      )
  location (suc (suc k)) l at = cc

  there : (k : ℕ) (l : Location) → slice_get c.locations k ≡ Some l → IsLocationInRange s c l × (HasLoop l → ⊥) × (l.first ≡ []) × (l.around ≡ [])
  there k l at = location k l (ap (λ (ls : List Location). slice_get ls k) (sym is.assembled.locations) ∙ at)

  pub is_document : IsDocument s c
  is_document = record {
    range = record {
      counts = is.assembled.counts;
      few = omega (arith, ap length is.assembled.locations);
      locations = λ k l at. (there k l at).0;
    };
    free = λ k l at none. let t = there k l at in (t.2, t.3);
    plain = λ k l at. let t = there k l at in record { no_loop = t.1; no_first = t.2; no_around = t.3 };
  }
