-- What the counts and ranges of a certificate say of the implications of an entry, kind by kind.
use Rattle.std.proofs.Common.{ℕ, zero, suc, ◌+◌, ◌<◌, ◌≤◌, ◌≡◌, ◌≢◌, ◌⊎◌, ◌^◌, pos, Bool, List, [], ◌∷◌, ◌++◌, length, length-append, All, refl, sym, subst}
use Rattle.std.proofs.Common.{⊎_elim, inr, arith, Option, Some, slice_get}
use Rattle.std.proofs.lemmas.List.Elements.{All-append, All-weaker}
use Rattle.std.proofs.lemmas.Option.{none-some, same_Some, slice_get_within}
use Rattle.rv_rows.specs.{Rows.RowWithin, Rows.coefficient, declared.linear.Row.Row, declared.farkas.Weight.Weight, declared.farkas.Multipliers.Multipliers}
use Rattle.rv_proofs.specs.Ranges.{AreKept, IsRecord, HasDivisor, IsInRange, IsLocationInRange}
use Rattle.rv_proofs.specs.Scopes.{Wanted, refutation, before, after, Implication, each, implications, rows_into, NamesTest, NeedsUpdate}
use Rattle.rv_proofs.specs.declared.certificate.EntryKind.TheVariants.{Dead, Go, Loop}
use Rattle.rv_proofs.specs.{Systems.System, Counts.HasKindCounts, Accepted.IsEntry, declared.certificate.Certificate.Certificate}
use Rattle.rv_proofs.specs.{declared.certificate.Location.Location, declared.certificate.Entry.Entry, declared.certificate.EntryKind.EntryKind}
use Rattle.rv_proofs.proofs.Records.{kept_within}
use Rattle.rv_accept.specs.{Needs.SomeAt, Needs.IsNamed, Needs.IsNeeded, Needs.Names, Needs.IsMarked, Passing.AreAsked, Passing.AreKindAsked}
use Rattle.rv_accept.proofs.Listing.{get_left, get_right, all_at, all_from, contains_get, get_contains, some_append, asks, each_at, named_each, needed_each}
use Rattle.rv_accept.proofs.Listing.{needed_never}
use Rattle.rv_accept.proofs.Marking.{marked_as, marked_then}
use Rattle.rv_base.proofs.Lists.{item_at}

-- an implication is within the limits
abbrev pub IsRanged : ℕ → Implication → Type 0
IsRanged tests i = IsRecord (length i.given + tests) i.by × HasDivisor i.wanted i.by.divisor

abbrev pub AllRanged : ℕ → List Implication → Type 0
AllRanged tests list = (n : ℕ) (i : Implication) → slice_get list n ≡ Some i → IsRanged tests i

ranged_left : (tests : ℕ) (xs ys : List Implication) → AllRanged tests (xs ++ ys) → AllRanged tests xs
ranged_left tests xs ys h n i at = h n i (get_left xs ys n i at)

ranged_right : (tests : ℕ) (xs ys : List Implication) → AllRanged tests (xs ++ ys) → AllRanged tests ys
ranged_right tests xs ys h n i at = h (length xs + n) i (get_right xs ys (length xs + n) n i refl at)

each_records : (tests : ℕ) (want : Row → Wanted) (given rs : List Row) (ms : List Multipliers) → length ms ≡ length rs → AllRanged tests (each want given rs ms)
    → All (IsRecord (length given + tests)) ms
each_records tests want given rs ms size h = all_from (IsRecord (length given + tests)) ms there
  where
    there : (n : ℕ) (m : Multipliers) → slice_get ms n ≡ Some m → IsRecord (length given + tests) m
    there n m at =
        let low : n < length ms = slice_get_within ms n m at in
        let (r, got) = item_at rs n (omega arith) in
        (h n (asks want given r m) (each_at want given rs ms n r m got at)).0

asked : (s : System) (want : Row → Wanted) (given rs : List Row) (ms : List Multipliers) → All (RowWithin (2 ^ 60)) given → AreKept s rs → length ms ≡ length rs
    → AllRanged s.tests (each want given rs ms) → AreAsked s given rs ms
asked s want given rs ms premises kept size h = record {
  premises = premises;
  kept = kept;
  counts = size;
  records = each_records s.tests want given rs ms size h;
}

kind_asked : (s : System) (c : Certificate) (l : Location) (kind : EntryKind) → IsInRange s c → IsLocationInRange s c l → HasKindCounts c l kind
    → AllRanged s.tests (implications c l kind) → AreKindAsked s c l kind
kind_asked s c l (Dead by) range here counts h =
    let is = h 0 (record { given = l.state; wanted = refutation; by = by }) refl in
    (kept_within s l.state here.state, is.0, is.1)
kind_asked s c l (Go target reach) range here (into, at, size) h = (
  into,
  at,
  asked s after l.state into.entry reach (kept_within s l.state here.state) (range.locations target into at).entry size
      (subst (λ (o : Option Location). AllRanged s.tests (each after l.state (rows_into o) reach)) at h),
)
kind_asked s c l (Loop first before_all around state) range here (a, b, d, e) h =
    let both : All (RowWithin (2 ^ 60)) (l.around ++ l.state) = All-append (RowWithin (2 ^ 60)) l.around l.state (kept_within s l.around here.around)
    (kept_within s l.state here.state) in
    let one : List Implication = each after l.entry l.first first in
    let two : List Implication = each before l.first l.around before_all in
    let three : List Implication = each after (l.around ++ l.state) l.around around in
    let four : List Implication = each after (l.around ++ l.state) l.state state in
    let rest : AllRanged s.tests (two ++ (three ++ four)) = ranged_right s.tests one (two ++ (three ++ four)) h in
    let turns : AllRanged s.tests (three ++ four) = ranged_right s.tests two (three ++ four) rest in (
      asked s after l.entry l.first first (kept_within s l.entry here.entry) here.first a (ranged_left s.tests one (two ++ (three ++ four)) h),
      asked s before l.first l.around before_all (kept_within s l.first here.first) here.around b (ranged_left s.tests two (three ++ four) rest),
      asked s after (l.around ++ l.state) l.around around both here.around d (ranged_left s.tests three four turns),
      asked s after (l.around ++ l.state) l.state state both here.state e (ranged_right s.tests three four turns),
    )

-- what an entry of a certificate in range owes
pub entry_counts : (s : System) (c : Certificate) (k j : ℕ) (l : Location) (e : Entry) → IsInRange s c → IsEntry c k j l e → HasKindCounts c l e.kind
entry_counts s c k j l e range is = (range.counts k l is.location).entries j e is.entry

pub entry_ranged : (s : System) (c : Certificate) (k j : ℕ) (l : Location) (e : Entry) → IsInRange s c → IsEntry c k j l e
    → AllRanged s.tests (implications c l e.kind)
entry_ranged s c k j l e range is = all_at (IsRanged s.tests) (implications c l e.kind) ((range.locations k l is.location).entries j e is.entry).by

pub entry_asked : (s : System) (c : Certificate) (k j : ℕ) (l : Location) (e : Entry) → IsInRange s c → IsEntry c k j l e → AreKindAsked s c l e.kind
entry_asked s c k j l e range is = kind_asked s c l e.kind range (range.locations k l is.location) (entry_counts s c k j l e range is)
    (entry_ranged s c k j l e range is)

pub entry_records : (s : System) (c : Certificate) (k j : ℕ) (l : Location) (e : Entry) → IsInRange s c → IsEntry c k j l e
    → All (λ i. IsRecord (length i.given + s.tests) i.by) (implications c l e.kind)
entry_records s c k j l e range is = All-weaker (IsRanged s.tests) (λ (i : Implication). IsRecord (length i.given + s.tests) i.by) (λ i h. h.0)
    (implications c l e.kind)
    ((range.locations k l is.location).entries j e is.entry).by

-- there are few of them
pub few_each : (want : Row → Wanted) (given rs : List Row) (ms : List Multipliers) → length (each want given rs ms) ≤ length rs
few_each want given [] ms = omega arith
few_each want given (r ∷ rs) [] = omega arith
few_each want given (r ∷ rs) (m ∷ ms) = let rest = few_each want given rs ms in omega arith

few_kinds : (s : System) (c : Certificate) (l : Location) (kind : EntryKind) → IsInRange s c → IsLocationInRange s c l → HasKindCounts c l kind
    → length (implications c l kind) ≤ 4096
few_kinds s c l (Dead by) range here counts = omega arith
few_kinds s c l (Go target reach) range here (into, at, size) =
    let few : length into.entry ≤ 1024 = (range.locations target into at).entry.1 in
    let short : length (each after l.state into.entry reach) ≤ length into.entry = few_each after l.state into.entry reach in
    subst (λ (o : Option Location). length (each after l.state (rows_into o) reach) ≤ 4096) (sym at) (omega arith)
few_kinds s c l (Loop first before_all around state) range here counts =
    let one : List Implication = each after l.entry l.first first in
    let two : List Implication = each before l.first l.around before_all in
    let three : List Implication = each after (l.around ++ l.state) l.around around in
    let four : List Implication = each after (l.around ++ l.state) l.state state in
    let a : length one ≤ length l.first = few_each after l.entry l.first first in
    let b : length two ≤ length l.around = few_each before l.first l.around before_all in
    let d : length three ≤ length l.around = few_each after (l.around ++ l.state) l.around around in
    let e : length four ≤ length l.state = few_each after (l.around ++ l.state) l.state state in
    let f : length l.first ≤ 1024 = here.first.1 in
    let g : length l.around ≤ 1024 = here.around.1 in
    let h : length l.state ≤ 1024 = here.state.1 in
    omega (arith, length-append one (two ++ (three ++ four)), length-append two (three ++ four), length-append three four)

pub few_implications : (s : System) (c : Certificate) (k j : ℕ) (l : Location) (e : Entry) → IsInRange s c → IsEntry c k j l e
    → length (implications c l e.kind) ≤ 4096
few_implications s c k j l e range is = few_kinds s c l e.kind range (range.locations k l is.location) (entry_counts s c k j l e range is)

-- MARKS

module _ (a b : List Bool) where
  -- one list of multipliers
  pub named_list : (want : Row → Wanted) (given rs : List Row) (ms : List Multipliers) (n : ℕ) → n ≡ length given → length ms ≡ length rs
      → IsMarked (λ t. SomeAt (λ m. Names n m t) ms) a b
      → IsMarked (IsNamed (each want given rs ms)) a b
  named_list want given rs ms n e size m = marked_as (λ t. SomeAt (λ m. Names (length given) m t) ms) (IsNamed (each want given rs ms)) a b
      (λ t low. named_each want given rs ms t size)
      (subst (λ (k : ℕ). IsMarked (λ t. SomeAt (λ m. Names k m t) ms) a b) e m)

  -- one refutation
  pub named_refutation : (given : List Row) (by : Multipliers) (n : ℕ) → n ≡ length given → IsMarked (Names n by) a b
      → IsMarked (IsNamed (record { given = given; wanted = refutation; by = by } ∷ [])) a b
  named_refutation given by n e m = marked_as (Names (length given) by) (IsNamed (one ∷ [])) a b (λ t low. (to t, from t)) (subst (λ (k : ℕ). IsMarked
      (Names k by) a b) e m)
    where
      one : Implication
      one = record { given = given; wanted = refutation; by = by }

      to : (t : ℕ) → Names (length given) by t → IsNamed (one ∷ []) t
      to t (p, w, there, is) = (0, one, refl, (w, get_contains by.weights p w there, is))

      from : (t : ℕ) → IsNamed (one ∷ []) t → Names (length given) by t
      from t (zero, i, at, named) =
          let (w, inside, is) = subst (λ (x : Implication). NamesTest x t) (sym (same_Some one i at)) named in
          let (p, there) = contains_get by.weights w inside in
          (p, w, there, is)
      from t (suc n, i, at, named) = absurd (none-some i at)

  pub needed_list : (given rs : List Row) (ms : List Multipliers) → length ms ≡ length rs → IsMarked (λ k. SomeAt (λ r. coefficient k r ≢ pos 0) rs) a b
      → IsMarked (IsNeeded (each after given rs ms)) a b
  needed_list given rs ms size m = marked_as (λ k. SomeAt (λ r. coefficient k r ≢ pos 0) rs) (IsNeeded (each after given rs ms)) a b
      (λ k low. needed_each given rs ms k size) m

  -- a list that needs nothing before another
  pub needed_after_none : (given rs : List Row) (ms : List Multipliers) (ys : List Implication) → IsMarked (IsNeeded ys) a b
      → IsMarked (IsNeeded (each before given rs ms ++ ys)) a b
  needed_after_none given rs ms ys m = marked_as (IsNeeded ys) (IsNeeded (each before given rs ms ++ ys)) a b (λ k low. (
    λ h. (some_append (λ i. NeedsUpdate i.wanted k) (each before given rs ms) ys).0 (inr h),
    λ h. ⊎_elim (λ l. absurd (needed_never given rs ms k l)) (λ r. r) ((some_append (λ i. NeedsUpdate i.wanted k) (each before given rs ms) ys).1 h),
  )) m

-- two lists in turn
pub named_both : (xs ys : List Implication) (a b c : List Bool) → IsMarked (IsNamed xs) a b → IsMarked (IsNamed ys) b c → IsMarked (IsNamed (xs ++ ys)) a c
named_both xs ys a b c m n = marked_as (λ t. IsNamed xs t ⊎ IsNamed ys t) (IsNamed (xs ++ ys)) a c (λ t low. some_append (λ i. NamesTest i t) xs ys)
    (marked_then (IsNamed xs) (IsNamed ys) a b c m n)

pub needed_both : (xs ys : List Implication) (a b c : List Bool) → IsMarked (IsNeeded xs) a b → IsMarked (IsNeeded ys) b c → IsMarked (IsNeeded (xs ++ ys)) a c
needed_both xs ys a b c m n = marked_as (λ k. IsNeeded xs k ⊎ IsNeeded ys k) (IsNeeded (xs ++ ys)) a c (λ k low. some_append
    (λ i. NeedsUpdate i.wanted k) xs ys)
    (marked_then (IsNeeded xs) (IsNeeded ys) a b c m n)

-- weights on premises that are there
pub there_of : (n m : ℕ) (ms : List Multipliers) → n ≡ m → All (IsRecord n) ms → All (λ (x : Multipliers). All (λ (w : Weight). w.premise < m) x.weights) ms
there_of n m ms e h = subst (λ (k : ℕ). All (λ (x : Multipliers). All (λ (w : Weight). w.premise < k) x.weights) ms) e
    (All-weaker (IsRecord n) (λ (x : Multipliers). All (λ (w : Weight). w.premise < n) x.weights) (λ x r. r.there) ms h)
