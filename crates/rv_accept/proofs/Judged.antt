-- The first implication of a list that is not proved, and what that says of the entry.
use Rattle.std.proofs.Common.{ℕ, zero, suc, ◌+◌, ◌<◌, ◌≤◌, ◌≡◌, ◌↔◌, ◌^◌, ℤ, ◌-ℤ◌, List, [], ◌∷◌, ◌++◌, map, length, length-append, All, refl, sym}
use Rattle.std.proofs.Common.{subst, ⊎_elim, arith, Option, Some, IfSome, slice_get, None as Nothing}
use Rattle.std.proofs.{lemmas.List.length_push, lemmas.Option.none-some, lemmas.Option.same_Some, lemmas.Option.slice_get_within}
use Rattle.rv_rows.specs.{declared.linear.Row.Row, declared.linear.Form.Form, declared.farkas.Multipliers.Multipliers, Rows.dot, Tight.Fits, Forms.number}
use Rattle.rv_rows.specs.{Forms.forms_width, Forms.IsSubstituted, Forms.CanSubstitute, Multipliers.Refutes}
use Rattle.rv_rows.proofs.FormLemmas.{pushed, substituted}
use Rattle.rv_proofs.specs.Scopes.{Wanted, refutation, before, after, Implication, each, implications, rows_into}
use Rattle.rv_proofs.specs.{Systems.System, Systems.IsSystem, Systems.IsUpdate, Ranges.AreKept, Implied.IsImplied, Implied.IsShownWith, Implied.HasBefore}
use Rattle.rv_proofs.specs.{Accepted.AreImplied, declared.certificate.Certificate.Certificate, declared.certificate.Location.Location}
use Rattle.rv_proofs.specs.{declared.certificate.Entry.Entry, declared.certificate.EntryKind.EntryKind, declared.certificate.EntryKind.TheVariants.Dead}
use Rattle.rv_proofs.specs.{declared.certificate.EntryKind.TheVariants.Go, declared.certificate.EntryKind.TheVariants.Loop}
use Rattle.rv_proofs.proofs.{Once.implied_once, Rooms.has_room, Rooms.stays_small}
use Rattle.rv_accept.specs.Passing.{AreFacts, AreAsked, AreKindAsked, HasRoom, AreTried, HoldsWith, FailsFirst, AreJudged, IsFirstUnimplied}
use Rattle.rv_accept.proofs.Ranged.{few_each}
use Rattle.rv_accept.proofs.Listing.{get_left, get_right, get_cases, all_at, all_from, asks, each_at, each_parts}

-- ROOM

-- the kept rows of a list can be taken before the updates
pub rooms : (s : System) (rows : List Row) (forms : List Form) → IsSystem s → length forms ≡ s.memories → All (IsUpdate s) forms → AreKept s rows
    → All (HasRoom forms) rows
rooms s rows forms is many updates kept = all_from (HasRoom forms) rows (λ n r at.
    let k = all_at (λ (r : Row). (length r.coefficients ≡ s.memories) × Fits r) rows kept.0 n r at in
    record { room = has_room s is r forms k.0 k.1 many updates; small = stays_small s is r forms k.0 k.1 many updates })

columns_to : (ℕ → ℤ) → ℕ → List ℤ
columns_to f zero = []
columns_to f (suc n) = columns_to f n ++ f n ∷ []

columns_length : (f : ℕ → ℤ) (n : ℕ) → length (columns_to f n) ≡ n
unfolding columns_to
columns_length f zero = refl
columns_length f (suc n) = let rest = columns_length f n in omega (arith, length_push (columns_to f n) (f n))

columns_number : (f : ℕ → ℤ) (n k : ℕ) → k < n → number k (columns_to f n) ≡ f k
unfolding columns_to
columns_number f zero k low = absurd (omega arith)
columns_number f (suc n) k low = pushed f (columns_to f n) (f n) n (columns_length f n) (λ j less. columns_number f n j less) refl k (omega arith)

exists_before : (r : Row) (forms : List Form) → CanSubstitute r forms → (new : Row) × IsSubstituted r forms new
exists_before r forms can =
    let side : ℕ → ℤ = λ j. dot r.coefficients (map (λ f. number j f.coefficients) forms) in
    let moved : ℤ = dot r.coefficients (map (λ f. f.constant) forms) in
    let new : Row = record { coefficients = columns_to side (forms_width forms); bound = r.bound -ℤ moved } in (
      new,
      substituted r forms (columns_to side (forms_width forms)) (forms_width forms) (r.bound -ℤ moved) moved can refl (columns_length side
          (forms_width forms))
          (λ j low. columns_number side (forms_width forms) j low) refl refl,
    )

-- there are few implications of one list
pub asked_few : (s : System) (want : Row → Wanted) (given wanted : List Row) (by : List Multipliers) → AreAsked s given wanted by
    → length (each want given wanted by) ≤ 1024
asked_few s want given wanted by a = let kept : length wanted ≤ 1024 = a.kept.1 in let short = few_each want given wanted by in omega arith

pub both_few : (xs ys : List Implication) (m n : ℕ) → length xs ≤ m → length ys ≤ n → length (xs ++ ys) ≤ m + n
both_few xs ys m n a b = omega (arith, length-append xs ys)

-- LISTS

module _ (rows : List Row) (forms : List Form) where
  fails_left : (xs ys : List Implication) (n : ℕ) → FailsFirst rows forms xs n → FailsFirst rows forms (xs ++ ys) n
  fails_left xs ys n f = record {
    implication = f.implication;
    at = get_left xs ys n f.implication f.at;
    fails = f.fails;
    first = λ m i low at. ⊎_elim (λ l. f.first m i low l)
        (λ (k, e, r). let inside : n < length xs = slice_get_within xs n f.implication f.at in absurd (omega (arith, inside, e, low))) (get_cases xs ys m i at);
  }

  fails_right : (xs ys : List Implication) (n : ℕ) → ((m : ℕ) (i : Implication) → slice_get xs m ≡ Some i → HoldsWith rows forms i) → FailsFirst rows forms ys n
      → FailsFirst rows forms (xs ++ ys) (length xs + n)
  fails_right xs ys n all f = record {
    implication = f.implication;
    at = get_right xs ys (length xs + n) n f.implication refl f.at;
    fails = f.fails;
    first = λ m i low at. ⊎_elim (λ l. all m i l) (λ (k, e, r). f.first k i (omega (arith, e, low)) r) (get_cases xs ys m i at);
  }

  -- the first of a list that begins with others
  pub judged_left : (xs ys : List Implication) (n : ℕ) → AreJudged rows forms xs (Some n) → AreJudged rows forms (xs ++ ys) (Some n)
  judged_left xs ys n f = fails_left xs ys n f

  pub judged_some : (xs ys : List Implication) (many n : ℕ) → length xs ≡ many → AreJudged rows forms xs Nothing → AreJudged rows forms ys (Some n)
      → AreJudged rows forms (xs ++ ys) (Some (many + n))
  judged_some xs ys many n e all f = subst (λ (k : ℕ). FailsFirst rows forms (xs ++ ys) (k + n)) e (fails_right xs ys n all f)

  pub judged_none : (xs ys : List Implication) → AreJudged rows forms xs Nothing → AreJudged rows forms ys Nothing → AreJudged rows forms (xs ++ ys) Nothing
  judged_none xs ys all rest m i at = ⊎_elim (λ l. all m i l) (λ (k, e, r). rest k i r) (get_cases xs ys m i at)

  pub few_judged : (xs : List Implication) (n : ℕ) → AreJudged rows forms xs (Some n) → n < length xs
  few_judged xs n f = slice_get_within xs n f.implication f.at

  pub found_few : (xs : List Implication) (o : Option ℕ) → length xs < 2 ^ 32 → AreJudged rows forms xs o → IfSome o (λ n. n < 2 ^ 32)
  found_few xs Nothing few h = tt
  found_few xs (Some n) few h = let low : n < length xs = slice_get_within xs n h.implication h.at in omega arith

  -- ONE LIST OF ROWS

  module _ (want : Row → Wanted) (given wanted : List Row) (by : List Multipliers) (premises : List Row) (e : premises ≡ given ++ rows) where
    pub tried_judged : (o : Option ℕ) → AreTried want premises forms wanted by o → AreJudged rows forms (each want given wanted by) o
    tried_judged Nothing h = λ m i at.
        let (r, by', got, there, is) = each_parts want given wanted by m i at in
        subst (HoldsWith rows forms) is (subst (λ (p : List Row). IsShownWith p forms (want r) by') e (h m r by' (slice_get_within wanted m r got) got there))
    tried_judged (Some n) f = record {
      implication = asks want given f.row f.multipliers;
      at = each_at want given wanted by n f.row f.multipliers f.at f.at_by;
      fails = λ h. f.fails (subst (λ (p : List Row). IsShownWith p forms (want f.row) f.multipliers) (sym e) h);
      first = λ m i low at.
          let (r, by', got, there, is) = each_parts want given wanted by m i at in
          subst (HoldsWith rows forms) is (subst (λ (p : List Row). IsShownWith p forms (want r) by') e (f.first m r by' low got there));
    }

-- one refutation
pub refuted_judged : (rows : List Row) (forms : List Form) (given premises : List Row) (by : Multipliers) → premises ≡ given ++ rows → Refutes premises by
    → AreJudged rows forms (record { given = given; wanted = refutation; by = by } ∷ []) Nothing
refuted_judged rows forms given premises by e h zero i at = subst (HoldsWith rows forms) (same_Some (record {
  given = given;
  wanted = refutation;
  by = by;
}) i at)
    (subst (λ (p : List Row). Refutes p by) e h)
refuted_judged rows forms given premises by e h (suc m) i at = absurd (none-some i at)

pub unrefuted_judged : (rows : List Row) (forms : List Form) (given premises : List Row) (by : Multipliers) → premises ≡ given ++ rows → ¬ Refutes premises by
    → AreJudged rows forms (record { given = given; wanted = refutation; by = by } ∷ []) (Some 0)
unrefuted_judged rows forms given premises by e n = record {
  implication = record { given = given; wanted = refutation; by = by };
  at = refl;
  fails = λ h. n (subst (λ (p : List Row). Refutes p by) (sym e) h);
  first = λ m i low at. absurd (omega (arith, low));
}

-- THE ENTRY

-- a row that is wanted is a kept row
abbrev pub IsKeptWanted : System → Wanted → Type 0
IsKeptWanted s refutation = Unit {0}
IsKeptWanted s (before r) = (length r.coefficients ≡ s.memories) × Fits r
IsKeptWanted s (after r) = (length r.coefficients ≡ s.memories) × Fits r

abbrev pub AllKept : System → List Implication → Type 0
AllKept s list = (n : ℕ) (i : Implication) → slice_get list n ≡ Some i → IsKeptWanted s i.wanted

kept_append : (s : System) (xs ys : List Implication) → AllKept s xs → AllKept s ys → AllKept s (xs ++ ys)
kept_append s xs ys a b n i at = ⊎_elim (λ l. a n i l) (λ (k, e, r). b k i r) (get_cases xs ys n i at)

kept_each : (s : System) (want : Row → Wanted) (given wanted : List Row) (by : List Multipliers)
    → ((r : Row) → (length r.coefficients ≡ s.memories) × Fits r → IsKeptWanted s (want r)) → AreAsked s given wanted by → AllKept s (each want given wanted by)
kept_each s want given wanted by f h n i at =
    let (r, m, got, there, is) = each_parts want given wanted by n i at in
    subst (λ (x : Implication). IsKeptWanted s x.wanted) is (f r (all_at (λ (r : Row). (length r.coefficients ≡ s.memories) × Fits r) wanted h.kept.0 n r got))

kept_refutation : (s : System) (given : List Row) (by : Multipliers) → AllKept s (record { given = given; wanted = refutation; by = by } ∷ [])
kept_refutation s given by zero i at = subst (λ (x : Implication). IsKeptWanted s x.wanted) (same_Some (record {
  given = given;
  wanted = refutation;
  by = by;
}) i at) tt
kept_refutation s given by (suc n) i at = absurd (none-some i at)

pub kept_kind : (s : System) (c : Certificate) (l : Location) (kind : EntryKind) → AreKindAsked s c l kind → AllKept s (implications c l kind)
kept_kind s c l (Dead by) h = kept_refutation s l.state by
kept_kind s c l (Go target reach) (into, at, h) = subst (λ (o : Option Location). AllKept s (each after l.state (rows_into o) reach)) (sym at)
    (kept_each s after l.state into.entry reach (λ r k. k) h)
kept_kind s c l (Loop first before_all around state) (a, b, d, e) =
    let one : List Implication = each after l.entry l.first first in
    let two : List Implication = each before l.first l.around before_all in
    let three : List Implication = each after (l.around ++ l.state) l.around around in
    let four : List Implication = each after (l.around ++ l.state) l.state state in
    kept_append s one (two ++ (three ++ four)) (kept_each s after l.entry l.first first (λ r k. k) a)
    (kept_append s two (three ++ four) (kept_each s before l.first l.around before_all (λ r k. k) b)
    (kept_append s three four (kept_each s after (l.around ++ l.state) l.around around (λ r k. k) d) (kept_each s after (l.around ++ l.state) l.state state
    (λ r k. k) e)))

module _ (s : System) (c : Certificate) (l : Location) (e : Entry) (rows : List Row) (forms : List Form) (is : IsSystem s) (kept : AllKept s
    (implications c l e.kind))
    (facts : AreFacts s c l e rows forms) where
  has_before : (w : Wanted) → IsKeptWanted s w → HasBefore w forms
  has_before refutation k = tt
  has_before (before r) k = tt
  has_before (after r) k = exists_before r forms (has_room s is r forms k.0 k.1 facts.limits.many_forms facts.limits.updates)

  -- an implication holds exactly where it is proved with the facts
  pub holds_with : (n : ℕ) (i : Implication) → slice_get (implications c l e.kind) n ≡ Some i → IsImplied s l e i ↔ HoldsWith rows forms i
  holds_with n i at = implied_once s l e i rows forms
      (record { size = facts.limits.many_rows; settled = λ t named. facts.tests t (n, i, at, named) })
      (record { size = facts.limits.many_forms; settled = λ k need. facts.needed k (n, i, at, need) })
      (has_before i.wanted (kept n i at))

  pub all_implied : AreJudged rows forms (implications c l e.kind) Nothing → AreImplied s c l e
  all_implied h = all_from (IsImplied s l e) (implications c l e.kind) (λ n i at. (holds_with n i at).1 (h n i at))

  pub first_implied : (n : ℕ) → AreJudged rows forms (implications c l e.kind) (Some n) → IsFirstUnimplied s c l e n
  first_implied n f = record {
    implication = f.implication;
    at = f.at;
    fails = λ h. f.fails ((holds_with n f.implication f.at).0 h);
    first = λ m i low at. (holds_with m i at).1 (f.first m i low at);
  }
