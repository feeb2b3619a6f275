-- A certificate that has the counts and ranges of a document has, location by location, what the rule of documents asks for.
use Rattle.std.proofs.Common.{◌≡◌, ◌+◌, ◌*◌, ◌/◌, ◌%◌, ◌^◌, ◌<◌, ◌≤◌, ℕ, zero, suc, Bool, true, false, List, [], ◌∷◌, ◌++◌, length, map, refl, sym, ap, ◌∙◌}
use Rattle.std.proofs.Common.{subst}
use Rattle.std.proofs.Common.{arith}
use Rattle.std.proofs.lemmas.Bool.{lt-ltb, eq-eqb, eqb-false, leb-false}
use Rattle.std.proofs.{lemmas.List.length-append, lemmas.List.length-map, lemmas.Option.slice_get_within}
use Rattle.std.specs.Prelude.{◌&&◌, ◌||◌, nat_eq, nat_le, pos, ◌≤ℤ◌, Option, Some, None, slice_get, option_map}
use Rattle.std.specs.List.{All, AllByRecursion}
use Rattle.rv_diagram.specs.{Nodes.node_at, declared.frozen.Frozen.Frozen}
use Rattle.rv_rows.specs.{declared.linear.Row.Row, declared.farkas.Multipliers.Multipliers}
use Rattle.rv_flat.specs.declared.flat.Flat.{Flat}
use Rattle.rv_control.specs.Control.{control_of}
use Rattle.rv_proofs.specs.Scopes.{Implication, Wanted, before, after, each, implications, rows_into}
use Rattle.rv_proofs.specs.Ranges.{IsRecord, HasDivisor, IsControlSet, IsCondition}
use Rattle.rv_proofs.specs.declared.certificate.EntryKind.TheVariants.{Dead, Go, Loop}
use Rattle.rv_proofs.specs.{Systems.System, Systems.IsState, Counts.HasLoop, Counts.HasKindCounts, declared.certificate.Certificate.Certificate}
use Rattle.rv_proofs.specs.{declared.certificate.Location.Location, declared.certificate.Entry.Entry, declared.certificate.EntryKind.EntryKind}
use Rattle.rv_invfile.specs.{Rules.IsDocument, Told.IsTold}
use Rattle.rv_invariant.specs.Shapes.{shape, shape_of, is_state}
use Rattle.rv_invariant.specs.Certificates.{known_at, certificate_records, certificate_rule, FitsCertificate, IsHeld}
use Rattle.rv_invariant.proofs.{Documented.document-right, Knowing.KindFits, Knowing.TurnFits, Knowing.EntryFits, Knowing.LocationFits, Knowing.AllLocated}
use Rattle.rv_invariant.proofs.{Knowing.outline_of, Knowing.all-map, Turning.has_turn, Turning.has-turn, Turning.has-loop, Turning.differ, Turning.all-parted}
use Rattle.rv_invariant.proofs.{Ranging.SetFits, Ranging.KeptRow, Ranging.ProofFits, Spelling.each-of, Standing.positive-is, Standing.at-most}
use Rattle.rv_invfile.proofs.Written.{number-is}

-- ---- How many entry rows there are.
abbrev told : Location → Option ℕ
told l = Some (length l.entry)

told-at : (ls : List Location) (k : ℕ) (l : Location) → slice_get ls k ≡ Some l → known_at (map told ls) k ≡ Some (length l.entry)
told-at [] k l h = cc
told-at (x ∷ ls) zero l h = ap (option_map (λ (y : Location). length y.entry)) h
told-at (x ∷ ls) (suc k) l h = told-at ls k l h

told-few : (ls : List Location) → ((k : ℕ) (l : Location) → slice_get ls k ≡ Some l → length l.entry ≤ 1024) → (i n : ℕ) → known_at (map told ls) i ≡ Some n
    → n ≤ 1024
told-few [] few i n h = absurd (clash h)
  where
    clash : None ≡ Some n → ⊥
    clash e = cc
told-few (x ∷ ls) few zero n h = let e = number-is (length x.entry) n h in let l = few 0 x refl in omega (arith, e, l)
told-few (x ∷ ls) few (suc i) n h = told-few ls (λ k l e. few (suc k) l e) i n h

all-from : {A : Type 0} (P : A → Type 0) (xs : List A) → ((j : ℕ) (x : A) → slice_get xs j ≡ Some x → P x) → AllByRecursion P xs
all-from P [] h = tt
all-from P (x ∷ xs) h = (h 0 x refl, all-from P xs (λ j y e. h (suc j) y e))

-- ---- Diagrams.
module _ (s : System) where
  state-may : (x : ℕ) → IsState s x → is_state (shape_of s) x ≡ true
  state-may x p =
      let low = p.1 in
      let even = p.2 in
      ap (λ b. b && nat_eq (x % 2) 0) (lt-ltb x (2 * s.states) (omega (arith, low, even))) ∙ eq-eqb (x % 2) 0 (omega (arith, even))

  even-or : (x : ℕ) (b : Bool) → nat_eq (x % 2) 0 ≡ b → x < 2 * s.states → ((i : ℕ) → i < s.states → x ≡ 2 * i + 1 → ⊥) → b ≡ true
  even-or x true e l h = refl
  even-or x false e l h = let odd = eqb-false (x % 2) 0 e in absurd (h (x / 2) (omega (arith, l)) (omega (arith, odd)))

  read-may : (x : ℕ) (b : Bool) → nat_le (2 * s.states) x ≡ b → ((i : ℕ) → i < s.states → x ≡ 2 * i + 1 → ⊥) → (b || nat_eq (x % 2) 0) ≡ true
  read-may x true e h = refl
  read-may x false e h = even-or x (nat_eq (x % 2) 0) refl (leb-false (2 * s.states) x e) h

  control-fits : (set : Frozen) → IsControlSet s set → IsHeld set → SetFits (shape_of s) true set
  control-fits set h held = record { ordered = h.ordered; may = λ n l. state-may (node_at set.nodes n).var (h.states n l); held = held }

  condition-fits : (set : Frozen) → IsCondition s set → IsHeld set → SetFits (shape_of s) false set
  condition-fits set h held = record {
    ordered = h.ordered;
    may = λ n l. read-may (node_at set.nodes n).var (nat_le (2 * s.states) (node_at set.nodes n).var) refl (h.read n l).1;
    held = held;
  }

  -- ---- Multipliers.
  record-fits : (premises : ℕ) (m : Multipliers) → IsRecord premises m → ProofFits (2 ^ 30) premises m
  record-fits premises m r =
      let p = positive-is m.divisor r.positive in
      record {
        divisor = p.0;
        divides = p.1;
        positive = p.2;
        small = at-most p.0 (2 ^ 30) (subst (λ z. z ≤ℤ pos (2 ^ 30)) p.1 r.divisor);
        few = r.few;
        there = r.there;
        weighted = r.weighted;
        rising = r.rising;
      }

  one-fits : (premises : ℕ) (m : Multipliers) → IsRecord premises m → m.divisor ≡ pos 1 → ProofFits 1 premises m
  one-fits premises m r e = record {
    divisor = 1;
    divides = e;
    positive = omega arith;
    small = omega arith;
    few = r.few;
    there = r.there;
    weighted = r.weighted;
    rising = r.rising;
  }

  abbrev Proved : Implication → Type 0
  Proved i = IsRecord (length i.given + s.tests) i.by × HasDivisor i.wanted i.by.divisor

  each-fits : (want : Row → Wanted) (given rows : List Row) (ms : List Multipliers) → length ms ≡ length rows
      → AllByRecursion Proved (each want given rows ms) → AllByRecursion (ProofFits (2 ^ 30) (length given + s.tests)) ms
  each-fits want given rows [] e h = tt
  each-fits want given [] (m ∷ ms) e h = absurd (omega (arith, e))
  each-fits want given (r ∷ rows) (m ∷ ms) e h = (record-fits (length given + s.tests) m h.0.0, each-fits want given rows ms (omega (arith, e)) h.1)

  turn-fits : (l : Location) (first before_all around state : List Multipliers)
      → length first ≡ length l.first → length before_all ≡ length l.around → length around ≡ length l.around → length state ≡ length l.state
      → AllByRecursion Proved (each after l.entry l.first first ++ (each before l.first l.around before_all
      ++ (each after (l.around ++ l.state) l.around around ++ each after (l.around ++ l.state) l.state state)))
      → TurnFits (shape_of s) (outline_of l) first before_all around state
  turn-fits l first before_all around state a b d e h =
      let p1 = all-parted Proved (each after l.entry l.first first) (each before l.first l.around before_all
      ++ (each after (l.around ++ l.state) l.around around ++ each after (l.around ++ l.state) l.state state)) h in
      let p2 = all-parted Proved (each before l.first l.around before_all)
      (each after (l.around ++ l.state) l.around around ++ each after (l.around ++ l.state) l.state state) p1.1 in
      let p3 = all-parted Proved (each after (l.around ++ l.state) l.around around) (each after (l.around ++ l.state) l.state state) p2.1 in
      let size : length (l.around ++ l.state) ≡ length l.around + length l.state = length-append l.around l.state in
      let inner = λ (ms : List Multipliers). λ (f : AllByRecursion (ProofFits (2 ^ 30) (length (l.around ++ l.state) + s.tests)) ms).
      subst (λ n. AllByRecursion (ProofFits (2 ^ 30) (n + s.tests)) ms) size f in
      record {
        first_size = a;
        first_fit = each-fits after l.entry l.first first a p1.0;
        before_size = b;
        before_fit = each-fits before l.first l.around before_all b p2.0;
        around_size = d;
        around_fit = inner around (each-fits after (l.around ++ l.state) l.around around d p3.0);
        state_size = e;
        state_fit = inner state (each-fits after (l.around ++ l.state) l.state state e p3.1);
      }

  kind-fits : (c : Certificate) (l : Location) (k : EntryKind) → HasKindCounts c l k → AllByRecursion Proved (implications c l k)
      → KindFits (shape_of s) (length c.locations) (outline_of l) (map told c.locations) k
  kind-fits c l (Dead by) counts h = one-fits (length l.state + s.tests) by h.0.0 h.0.1
  kind-fits c l (Go target reach) counts h = (
    slice_get_within c.locations target counts.0 counts.1,
    told-at c.locations target counts.0 counts.1 ∙ ap Some (sym counts.2),
    each-fits after l.state counts.0.entry reach counts.2 (subst (λ o. AllByRecursion Proved (each after l.state (rows_into o) reach)) counts.1 h),
  )
  kind-fits c l (Loop first before_all around state) counts h = turn-fits l first before_all around state counts.0 counts.1 counts.2 counts.3 h

  records-fit : (premises : ℕ) (ms : List Multipliers) → All (IsRecord premises) ms → AllByRecursion (ProofFits (2 ^ 30) premises) ms
  records-fit premises ms h = all-map (IsRecord premises) (ProofFits (2 ^ 30) premises) (λ m r. record-fits premises m r) ms
      (each-of (IsRecord premises) ms h)

-- ---- Locations.
module _ (f : Flat) (c : Certificate) (fits : FitsCertificate f c) where
  abbrev system : System
  system = control_of f

  entry-fits : (k : ℕ) (l : Location) → slice_get c.locations k ≡ Some l → (j : ℕ) (e : Entry) → slice_get l.entries j ≡ Some e
      → EntryFits (shape f) (length c.locations) (outline_of l) (map told c.locations) e
  entry-fits k l h j e there =
      let range = (fits.range.locations k l h).entries j e there in
      record {
        condition = condition-fits system e.condition range.condition ((fits.held k l h).conditions j e there);
        kind = kind-fits system c l e.kind ((fits.range.counts k l h).entries j e there) (each-of (Proved system) (implications c l e.kind) range.by);
      }

  no-loop : (l : Location) → has_turn l.entries ≡ false → ¬ HasLoop l
  no-loop l none h = differ (has_turn l.entries) (has-turn l h) none

  location-fits : (k : ℕ) (l : Location) → slice_get c.locations k ≡ Some l → LocationFits (shape f) (length c.locations) (map told c.locations) k l
  location-fits k l h =
      let range = fits.range.locations k l h in
      let counts = fits.range.counts k l h in
      record {
        control = control-fits system l.control range.control (fits.held k l h).control;
        told = told-at c.locations k l h;
        few_entry = range.entry.1;
        rows = record {
          entry = each-of (KeptRow system.memories) l.entry range.entry.0;
          few_first = range.first.1;
          first = each-of (KeptRow system.memories) l.first range.first.0;
          few_around = range.around.1;
          around = each-of (KeptRow system.memories) l.around range.around.0;
          few_state = range.state.1;
          state = each-of (KeptRow system.memories) l.state range.state.0;
        };
        counted = counts.by_entry;
        by_entry = records-fit system (length l.entry) l.by_entry range.by_entry;
        by_first = records-fit system (length l.first) l.by_first range.by_first;
        turned = λ e. counts.by_first.some (has-loop l e);
        unturned = λ e. let n = no-loop l e in let p = fits.free k l h n in (p.0, p.1, counts.by_first.none n);
        few = range.few;
        entries = all-from (EntryFits (shape f) (length c.locations) (outline_of l) (map told c.locations)) l.entries (entry-fits k l h);
      }

  located : AllLocated (shape f) (length c.locations) c
  located = record {
    known = map told c.locations;
    sound = record {
      size = length-map c.locations told;
      small = told-few c.locations (λ k l e. (fits.range.locations k l e).entry.1);
    };
    size = refl;
    fits = location-fits;
  }

pub document-exists : (f : Flat) (c : Certificate) → IsTold f → FitsCertificate f c → IsDocument (certificate_rule f) (certificate_records f c) c
document-exists f c told fits = document-right f c told fits.range.few (located f c fits)
