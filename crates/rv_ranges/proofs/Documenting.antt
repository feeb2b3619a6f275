-- What is asked of the parts of a certificate makes it a document, and a document meets it.
use Rattle.std.proofs.Common.{◌≡◌, ℕ, ◌+◌, ◌≤◌, List, [], ◌∷◌, ◌++◌, length, All, Option, slice_get, arith, sym, ap, subst}
use Rattle.std.proofs.{lemmas.List.Elements.All-nil, lemmas.List.Elements.All-cons, lemmas.List.Elements.All-head, lemmas.List.Elements.All-tail}
use Rattle.std.proofs.{lemmas.List.Elements.All-append, lemmas.List.length-append}
use Rattle.rv_diagram.specs.{Nodes.IsOrderedOver, declared.frozen.Frozen.Frozen}
use Rattle.rv_rows.specs.{declared.linear.Row.Row, declared.farkas.Multipliers.Multipliers}
use Rattle.rv_proofs.specs.{Systems.System, Scopes.Wanted, Scopes.refutation, Scopes.before, Scopes.after, Scopes.Implication, Scopes.each, Scopes.rows_into, Scopes.implications}
use Rattle.rv_proofs.specs.{Counts.HasKindCounts, Counts.HasCounts}
use Rattle.rv_proofs.specs.Ranges.{IsRecord, HasDivisor, IsControlSet, IsCondition, AreKept, IsLocationInRange}
use Rattle.rv_proofs.specs.{declared.certificate.Certificate.Certificate, declared.certificate.Location.Location}
use Rattle.rv_proofs.specs.{declared.certificate.EntryKind.EntryKind, declared.certificate.EntryKind.TheVariants.Dead}
use Rattle.rv_proofs.specs.{declared.certificate.EntryKind.TheVariants.Go, declared.certificate.EntryKind.TheVariants.Loop}
use Rattle.rv_walk.specs.Plain.{ArePlain}
use Rattle.rv_ranges.specs.declared.bounds.Bounds.{Bounds}
use Rattle.rv_ranges.specs.Documents.{IsDocument, HasNoLoop, AreBoundsOf, AreKeptRows, IsStateSet, IsReadSet, premises_of, IsKind, IsRangedLocation}
use Rattle.rv_ranges.specs.Documents.{AreRangedLocations}

-- what is shown of each implication holds of its multipliers, and back where there are as many of them as rows
one_each : (want : Row → Wanted) (P : Implication → Type 0) (Q : Multipliers → Type 0) (given : List Row)
    → ((r : Row) (m : Multipliers) → Q m → P (record { given = given; wanted = want r; by = m }))
    → (rows : List Row) (by : List Multipliers) → All Q by → All P (each want given rows by)
one_each want P Q given f [] by h = All-nil P
one_each want P Q given f (r ∷ rs) [] h = All-nil P
one_each want P Q given f (r ∷ rs) (m ∷ ms) h =
    All-cons P (record { given = given; wanted = want r; by = m }) (each want given rs ms) (f r m (All-head Q m ms h))
    (one_each want P Q given f rs ms (All-tail Q m ms h))

each_one : (want : Row → Wanted) (P : Implication → Type 0) (Q : Multipliers → Type 0) (given : List Row)
    → ((r : Row) (m : Multipliers) → P (record { given = given; wanted = want r; by = m }) → Q m)
    → (rows : List Row) (by : List Multipliers) → length by ≡ length rows → All P (each want given rows by) → All Q by
each_one want P Q given f [] [] e h = All-nil Q
each_one want P Q given f [] (m ∷ ms) e h = absurd (omega arith)
each_one want P Q given f (r ∷ rs) [] e h = All-nil Q
each_one want P Q given f (r ∷ rs) (m ∷ ms) e h =
    let i : Implication = record { given = given; wanted = want r; by = m } in
    All-cons Q m ms (f r m (All-head P i (each want given rs ms) h))
    (each_one want P Q given f rs ms (omega arith) (All-tail P i (each want given rs ms) h))

-- what holds of all of two lists holds of all of each
all_left : {X : Type 0} (P : X → Type 0) (xs ys : List X) → All P (xs ++ ys) → All P xs
all_left P [] ys h = All-nil P
all_left P (x ∷ xs) ys h = All-cons P x xs (All-head P x (xs ++ ys) h) (all_left P xs ys (All-tail P x (xs ++ ys) h))

all_right : {X : Type 0} (P : X → Type 0) (xs ys : List X) → All P (xs ++ ys) → All P ys
all_right P [] ys h = h
all_right P (x ∷ xs) ys h = all_right P xs ys (All-tail P x (xs ++ ys) h)

-- a document without a loop is plain
pub plain_of : (s : System) (c : Certificate) → IsDocument s c → HasNoLoop c → ArePlain c
plain_of s c is none k l at =
    let (first, around) = is.free k l at (none k l at) in
    record { no_loop = none k l at; no_first = first; no_around = around }

module _ (s : System) (b : Bounds) (of : AreBoundsOf s b) where
  kept : (rows : List Row) → AreKeptRows b.memories rows → AreKept s rows
  kept rows h = subst (λ (m : ℕ). AreKeptRows m rows) of.memories h

  unkept : (rows : List Row) → AreKept s rows → AreKeptRows b.memories rows
  unkept rows h = subst (λ (m : ℕ). AreKeptRows m rows) (sym of.memories) h

  control : (f : Frozen) → IsStateSet b f → IsControlSet s f
  control f h = record {
    ordered = subst (λ (m : ℕ). IsOrderedOver m f) of.variables h.ordered;
    states = λ n l. let x = h.states n l in let k = x.known in let e = of.states in (x.number, omega arith, x.twice);
  }

  uncontrol : (f : Frozen) → IsControlSet s f → IsStateSet b f
  uncontrol f h = record {
    ordered = subst (λ (m : ℕ). IsOrderedOver m f) (sym of.variables) h.ordered;
    states = λ n l. let x = h.states n l in let k = x.1 in let e = of.states in record { number = x.0; known = omega arith; twice = x.2 };
  }

  condition : (f : Frozen) → IsReadSet b f → IsCondition s f
  condition f h = record {
    ordered = subst (λ (m : ℕ). IsOrderedOver m f) of.variables h.ordered;
    read = λ n l.
        let x = h.read n l in
        let o = h.ordered in
        let low = o.low n l in
        let e = of.states in
        let m = of.variables in
        (omega arith, λ i less is. x.none i (omega arith) is);
  }

  uncondition : (f : Frozen) → IsCondition s f → IsReadSet b f
  uncondition f h = record {
    ordered = subst (λ (m : ℕ). IsOrderedOver m f) (sym of.variables) h.ordered;
    read = λ n l. let x = h.read n l in let e = of.states in record { none = λ i less is. x.1 i (omega arith) is };
  }

  abbrev HasRange : Implication → Type 0
  HasRange i = IsRecord (length i.given + s.tests) i.by × HasDivisor i.wanted i.by.divisor

  with_tests : (l : Location) (kind : EntryKind) → IsKind (premises_of b.tests l) kind → IsKind (premises_of s.tests l) kind
  with_tests l kind h = subst (λ (t : ℕ). IsKind (premises_of t l) kind) of.tests h

  without_tests : (l : Location) (kind : EntryKind) → IsKind (premises_of s.tests l) kind → IsKind (premises_of b.tests l) kind
  without_tests l kind h = subst (λ (t : ℕ). IsKind (premises_of t l) kind) (sym of.tests) h

  both : (l : Location) → length (l.around ++ l.state) ≡ length l.around + length l.state
  both l = length-append l.around l.state

  -- multipliers of rows before or after the updates, and back
  afters : (given rows : List Row) (by : List Multipliers) → All (IsRecord (length given + s.tests)) by → All HasRange (each after given rows by)
  afters given rows by h = one_each after HasRange (IsRecord (length given + s.tests)) given (λ r m is. (is, tt)) rows by h

  befores : (given rows : List Row) (by : List Multipliers) → All (IsRecord (length given + s.tests)) by → All HasRange (each before given rows by)
  befores given rows by h = one_each before HasRange (IsRecord (length given + s.tests)) given (λ r m is. (is, tt)) rows by h

  after_each : (given rows : List Row) (by : List Multipliers) → length by ≡ length rows → All HasRange (each after given rows by)
      → All (IsRecord (length given + s.tests)) by
  after_each given rows by e h = each_one after HasRange (IsRecord (length given + s.tests)) given (λ r m is. is.0) rows by e h

  before_each : (given rows : List Row) (by : List Multipliers) → length by ≡ length rows → All HasRange (each before given rows by)
      → All (IsRecord (length given + s.tests)) by
  before_each given rows by e h = each_one before HasRange (IsRecord (length given + s.tests)) given (λ r m is. is.0) rows by e h

  -- the premises of later turns are the rows around the loop and those of the state
  later : (l : Location) (by : List Multipliers) → All (IsRecord (length l.around + length l.state + s.tests)) by
      → All (IsRecord (length (l.around ++ l.state) + s.tests)) by
  later l by h = subst (λ (n : ℕ). All (IsRecord (n + s.tests)) by) (sym (both l)) h

  sooner : (l : Location) (by : List Multipliers) → All (IsRecord (length (l.around ++ l.state) + s.tests)) by
      → All (IsRecord (length l.around + length l.state + s.tests)) by
  sooner l by h = subst (λ (n : ℕ). All (IsRecord (n + s.tests)) by) (both l) h

  implied : (c : Certificate) (l : Location) (kind : EntryKind) → IsKind (premises_of s.tests l) kind → All HasRange (implications c l kind)
  implied c l (Dead m) (divisor, ranges) =
      All-cons HasRange (record { given = l.state; wanted = refutation; by = m }) [] (ranges, divisor) (All-nil HasRange)
  implied c l (Go target reach) h = afters l.state (rows_into (slice_get c.locations target)) reach h
  implied c l (Loop a d e f) (first, before_all, around, state) =
      All-append HasRange (each after l.entry l.first a)
      (each before l.first l.around d ++ (each after (l.around ++ l.state) l.around e ++ each after (l.around ++ l.state) l.state f))
      (afters l.entry l.first a first)
      (All-append HasRange (each before l.first l.around d) (each after (l.around ++ l.state) l.around e ++ each after (l.around ++ l.state) l.state f)
      (befores l.first l.around d before_all)
      (All-append HasRange (each after (l.around ++ l.state) l.around e) (each after (l.around ++ l.state) l.state f)
      (afters (l.around ++ l.state) l.around e (later l e around)) (afters (l.around ++ l.state) l.state f (later l f state))))

  unimplied : (c : Certificate) (l : Location) (kind : EntryKind) → HasKindCounts c l kind → All HasRange (implications c l kind)
      → IsKind (premises_of s.tests l) kind
  unimplied c l (Dead m) counts h =
      let i : Implication = record { given = l.state; wanted = refutation; by = m } in
      let one = All-head HasRange i [] h in
      (one.1, one.0)
  unimplied c l (Go target reach) (into, at, size) h =
      after_each l.state (rows_into (slice_get c.locations target)) reach
      (let e = ap (λ (o : Option Location). length (rows_into o)) at in omega arith) h
  unimplied c l (Loop a d e f) (first, before_all, around, state) h =
      let ones = each after l.entry l.first a in
      let twos = each before l.first l.around d in
      let threes = each after (l.around ++ l.state) l.around e in
      let fours = each after (l.around ++ l.state) l.state f in
      let rest = all_right HasRange ones (twos ++ (threes ++ fours)) h in
      let last = all_right HasRange twos (threes ++ fours) rest in (
        after_each l.entry l.first a first (all_left HasRange ones (twos ++ (threes ++ fours)) h),
        before_each l.first l.around d before_all (all_left HasRange twos (threes ++ fours) rest),
        sooner l e (after_each (l.around ++ l.state) l.around e around (all_left HasRange threes fours last)),
        sooner l f (after_each (l.around ++ l.state) l.state f state (all_right HasRange threes fours last)),
      )

  location : (c : Certificate) (l : Location) → IsRangedLocation b l → IsLocationInRange s c l
  location c l h = let k = h.kept in record {
    control = control l.control h.control;
    entry = kept l.entry k.entry;
    first = kept l.first k.first;
    around = kept l.around k.around;
    state = kept l.state k.state;
    by_entry = k.by_entry;
    by_first = k.by_first;
    few = let m = h.few in omega arith;
    entries = λ j e at. let x = h.entries j e at in record {
      condition = condition e.condition x.condition;
      by = implied c l e.kind (with_tests l e.kind x.kind);
    };
  }

  pub made : (c : Certificate) → length c.locations ≤ 4096 → HasCounts c → AreRangedLocations b c.locations → IsDocument s c
  made c few counts h = record {
    range = record { counts = counts; few = few; locations = λ k l at. location c l (h k l at) };
    free = λ k l at none. let x = h k l at in let r = x.kept in r.free none;
  }

  pub unmade : (c : Certificate) → IsDocument s c → AreRangedLocations b c.locations
  unmade c h k l at =
      let r = h.range in
      let x = r.locations k l at in
      let counts = r.counts k l at in
      record {
        kept = record {
          entry = unkept l.entry x.entry;
          first = unkept l.first x.first;
          around = unkept l.around x.around;
          state = unkept l.state x.state;
          by_entry = x.by_entry;
          by_first = x.by_first;
          free = h.free k l at;
        };
        few = let m = x.few in omega arith;
        control = uncontrol l.control x.control;
        entries = λ j e at_e.
            let y = x.entries j e at_e in
            let n = counts.entries j e at_e in
            record {
              condition = uncondition e.condition y.condition;
              kind = without_tests l e.kind (unimplied c l e.kind n y.by);
            };
      }
