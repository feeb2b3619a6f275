-- The certificate of one location that holds a closed good set of control states is accepted.
use Rattle.std.proofs.Common.{ℕ, zero, suc, ◌<◌, ◌≤◌, ◌≡◌, List, [], ◌∷◌, length, map, refl, sym, ap, ◌∙◌, subst, ⊎_elim, arith, slice_get, Some, Option, All}
use Rattle.std.proofs.lemmas.Option.{slice_get_within, slice_get_cases, slice_get-map}
use Rattle.std.proofs.{lemmas.List.length-map, lemmas.List.Elements.All-nil}
use Rattle.std.specs.Option.{option_map}
use Rattle.rv_diagram.specs.declared.frozen.Frozen.{Frozen}
use Rattle.rv_proofs.specs.Scopes.{IsIn, Implication, implications, each, after, rows_into, IsSettled}
use Rattle.rv_proofs.specs.Accepted.{IsIncluded, IsCovered, Leads, IsDeadKind, IsObserved, AreImplied, IsAccepted}
use Rattle.rv_proofs.specs.{Systems.System, Counts.IsLoop, Counts.HasLoop, Counts.HasLocationCounts, Counts.HasEntryCounts, Ranges.IsControlSet, Ranges.AreKept}
use Rattle.rv_proofs.specs.{Ranges.IsEntryInRange, Ranges.IsLocationInRange, Cases.AreCases, Reached.IsControlClosed, Reached.IsControlGood}
use Rattle.rv_proofs.specs.{declared.certificate.Location.Location, declared.certificate.Entry.Entry, declared.report.Case.Case}
use Rattle.rv_walk.specs.{Ends.has, Plain.IsPlain, Plain.ArePlain, Walks.entry_of, Walks.location_of, Walks.certificate_of}
use Rattle.rv_base.proofs.{Lists.get_push, Lists.none_at, Lists.push_got, Options.some_same}

-- what a mapped list holds
got-map : {A B : Type 0} (f : A → B) (xs : List A) (k : ℕ) (y : B) → slice_get (map f xs) k ≡ Some y → (x : A) × (slice_get xs k ≡ Some x) × (f x ≡ y)
got-map {A} {B} f xs k y h = ⊎_elim
    (λ (x, low, got, is). (x, got, some_same (f x) y (sym (slice_get-map f xs k ∙ ap (option_map f) got) ∙ h)))
    (λ (past, none). let low : k < length (map f xs) = slice_get_within (map f xs) k y h in absurd (omega (arith, length-map xs f)))
    (slice_get_cases xs k).1

map-got : {A B : Type 0} (f : A → B) (xs : List A) (k : ℕ) (x : A) → slice_get xs k ≡ Some x → slice_get (map f xs) k ≡ Some (f x)
map-got f xs k x got = slice_get-map f xs k ∙ ap (option_map f) got

-- what a list of one holds
only-one : {A : Type 0} (x y : A) (k : ℕ) → slice_get (x ∷ []) k ≡ Some y → x ≡ y
only-one x y zero e = some_same x y e
only-one x y (suc k) e = cc

-- the entries of cases are steps
no-loop : (control : Frozen) (cases : List Case) → ¬ HasLoop (location_of control cases)
no-loop control cases (j, e, got, loop) =
    let q : (c : Case) × (slice_get cases j ≡ Some c) × (entry_of c ≡ e) = got-map entry_of cases j e got in
    subst IsLoop (sym q.2) loop

-- the certificate has no loop
pub plain : (control : Frozen) (cases : List Case) → ArePlain (certificate_of control cases)
plain control cases k l h =
    subst IsPlain (only-one (location_of control cases) l k h) (record { no_loop = no-loop control cases; no_first = refl; no_around = refl })

module _ (s : System) (control : Frozen) (cases : List Case) (set : IsControlSet s control) (closed : IsControlClosed s (has control))
    (good : IsControlGood s (has control)) (parts : AreCases s control cases) (few : length cases ≤ 2) where
  at-one : (k : ℕ) (l : Location) → slice_get (certificate_of control cases).locations k ≡ Some l → location_of control cases ≡ l
  at-one k l h = ⊎_elim (λ none. absurd (none_at [] k l refl none.1)) (λ one. one.1) (push_got [] (location_of control cases) l k h)

  first-is : slice_get (certificate_of control cases).locations 0 ≡ Some (location_of control cases)
  first-is = get_push [] (location_of control cases)

  each_entry : (Q : Location → Entry → Type 0) → ((j : ℕ) (c : Case) → slice_get cases j ≡ Some c → Q (location_of control cases) (entry_of c))
      → (k j : ℕ) (l : Location) (e : Entry) → slice_get (certificate_of control cases).locations k ≡ Some l → slice_get l.entries j ≡ Some e → Q l e
  each_entry Q f k j l e h g =
      let p : location_of control cases ≡ l = at-one k l h in
      let inner : slice_get (map entry_of cases) j ≡ Some e = subst (λ (x : Location). slice_get x.entries j ≡ Some e) (sym p) g in
      let q : (c : Case) × (slice_get cases j ≡ Some c) × (entry_of c ≡ e) = got-map entry_of cases j e inner in
      subst (λ (x : Location). Q x e) p (subst (Q (location_of control cases)) q.2 (f j q.0 q.1))

  none_implied : (c : Case) → implications (certificate_of control cases) (location_of control cases) (entry_of c).kind ≡ []
  none_implied c = ap (λ (o : Option Location). each after [] (rows_into o) []) first-is

  all_implied : (Q : Implication → Type 0) (c : Case) → All Q (implications (certificate_of control cases) (location_of control cases) (entry_of c).kind)
  all_implied Q c = subst (λ (l : List Implication). All Q l) (sym (none_implied c)) (All-nil Q)

  kept : AreKept s []
  kept = (All-nil _, omega arith)

  entry_counts : (j : ℕ) (e : Entry) → slice_get (location_of control cases).entries j ≡ Some e
      → HasEntryCounts (certificate_of control cases) (location_of control cases) e
  entry_counts j e h = each_entry (λ l x. HasEntryCounts (certificate_of control cases) (location_of control cases) x) (λ i c got.
      (location_of control cases, first-is, refl)) 0 j (location_of control cases) e first-is h

  location_counts : HasLocationCounts (certificate_of control cases) (location_of control cases)
  location_counts = record { by_entry = refl; by_first = record { some = λ loop. refl; none = λ no. refl }; entries = entry_counts }

  entry_in_range : (j : ℕ) (e : Entry) → slice_get (location_of control cases).entries j ≡ Some e
      → IsEntryInRange s (certificate_of control cases) (location_of control cases) e
  entry_in_range j e h = each_entry (λ l x. IsEntryInRange s (certificate_of control cases) (location_of control cases) x)
      (λ i c got. record { condition = (parts.each i c got).given.condition; by = all_implied _ c })
      0 j (location_of control cases) e first-is h

  location_in_range : IsLocationInRange s (certificate_of control cases) (location_of control cases)
  location_in_range = record {
    control = set;
    entry = kept;
    first = kept;
    around = kept;
    state = kept;
    by_entry = All-nil _;
    by_first = All-nil _;
    few = omega (arith, length-map cases entry_of, few);
    entries = entry_in_range;
  }

  is_included : IsIncluded (location_of control cases)
  is_included = record {
    entry = λ n r h. absurd (none_at [] n r refl h);
    first = λ loop n r h. absurd (none_at [] n r refl h);
    no_first = λ no. refl;
    no_around = λ no. refl;
  }

  is_covered : IsCovered s (location_of control cases)
  is_covered v allowed inside =
      let c : (j : ℕ) × (x : Case) × (slice_get cases j ≡ Some x) × IsIn x.condition v = parts.covered v allowed inside in
      (c.0, entry_of c.1, map-got entry_of cases c.0 c.1 c.2, c.3)

  pub accepted : IsAccepted s (certificate_of control cases)
  accepted = record {
    partition = record {
      in_range = record {
        counts = λ k l h. subst (HasLocationCounts (certificate_of control cases)) (at-one k l h) location_counts;
        few = omega arith;
        locations = λ k l h. subst (IsLocationInRange s (certificate_of control cases)) (at-one k l h) location_in_range;
      };
      initial = λ v h. (0, location_of control cases, first-is, refl, closed.initial v h);
      included = λ k l h. subst IsIncluded (at-one k l h) is_included;
      covered = λ k l h. subst (IsCovered s) (at-one k l h) is_covered;
      settled = λ k j l e h. each_entry (λ x y. IsSettled s (certificate_of control cases) x y)
          (λ i c got. record { tests = all_implied _ c; updates = all_implied _ c }) k j l e h.location h.entry;
      leads = λ k j l e h. each_entry (λ x y. Leads s (certificate_of control cases) x y y.kind) (λ i c got.
          (location_of control cases, first-is, λ v scope. closed.next v scope.allowed scope.control)) k j l e h.location h.entry;
      steps = λ k j l e h step. each_entry (λ x y. AreImplied s (certificate_of control cases) x y) (λ i c got. all_implied _ c) k j l e h.location h.entry;
    };
    observed = λ k j l e h step. each_entry (λ x y. IsObserved s x y) (λ i c got v scope. good v scope.allowed scope.control) k j l e h.location h.entry;
    dead = λ k j l e h. each_entry (λ x y. IsDeadKind y.kind → AreImplied s (certificate_of control cases) x y)
        (λ i c got no. absurd no) k j l e h.location h.entry;
  }
