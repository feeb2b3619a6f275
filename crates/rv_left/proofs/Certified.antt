-- The certificate of a partition is a left partition, or accepted where nothing is left.
use Rattle.std.proofs.Common.{◌≡◌, ◌⊎◌, inl, inr, ℕ, ◌+◌, ◌<◌, ◌≤◌, true, List, [], ◌∷◌, length, Some, slice_get, refl, sym, ap, ◌∙◌}
use Rattle.std.proofs.Common.{subst, ⊎_elim, arith, IsTrue, All, get_or}
use Rattle.std.proofs.lemmas.Bool.{cases_Bool}
use Rattle.std.proofs.{lemmas.Option.slice_get_within, lemmas.Option.slice_get-get_or, lemmas.List.Elements.All-nil}
use Rattle.std.specs.List.{Contains}
use Rattle.rv_base.proofs.Lists.{item_at, none_at, contains_got}
use Rattle.rv_diagram.specs.{Nodes.Valuation, declared.frozen.Frozen.Frozen}
use Rattle.rv_rows.specs.{declared.linear.Row.Row, declared.linear.Form.Form, declared.farkas.Multipliers.Multipliers}
use Rattle.rv_proofs.specs.Systems.{System}
use Rattle.rv_proofs.specs.Scopes.{IsIn, IsSettledTest, IsSettledUpdate, NamesTest, NeedsUpdate, Implication, Wanted, implications, each, after}
use Rattle.rv_proofs.specs.{Scopes.rows_into, Implied.IsImplied}
use Rattle.rv_proofs.specs.Counts.{IsLoopKind, HasKindCounts, HasLocationCounts}
use Rattle.rv_proofs.specs.Ranges.{AreKept, IsRecord, HasDivisor, IsLocationInRange}
use Rattle.rv_proofs.specs.Accepted.{IsIncluded, IsCovered, Leads, IsDeadKind, IsStepKind, IsObserved, IsEntry, IsPartition, IsAccepted}
use Rattle.rv_proofs.specs.Left.{IsFailingStep, IsUnrefuted, IsLeftPartition, IsWhy}
use Rattle.rv_proofs.specs.declared.certificate.EntryKind.{EntryKind}
use Rattle.rv_proofs.specs.declared.certificate.EntryKind.TheVariants.{Go}
use Rattle.rv_proofs.specs.{declared.certificate.Certificate.Certificate, declared.certificate.Location.Location, declared.certificate.Entry.Entry}
use Rattle.rv_proofs.specs.{declared.report.LeftReport.LeftReport, declared.report.Why.Why}
use Rattle.rv_proofs.specs.declared.report.Why.TheVariants.{Locations, Stuck}
use Rattle.rv_symbolic.proofs.Reading.{control-value}
use Rattle.rv_split.specs.{declared.partition.Partition.Partition, Partitions.part_at, Partitions.IsInSome}
use Rattle.rv_walk.specs.{Ends.has, Plain.ArePlain}
use Rattle.rv_left.specs.{Meeting.Meets, Meeting.AreApart, Fronts.IsClosedSet, Failures.IsFailing, Failures.IsFailingSet, Turns.IsEnded, Turns.AreMarked}
use Rattle.rv_left.specs.{Entries.IsLedInto, Entries.IsLocationOf, Entries.AreLocations, Reports.IsParted, Reports.IsRight}
use Rattle.rv_left.proofs.Bridging.{state_is_listed, control_of_set}

each_none : (want : Row → Wanted) (given rows : List Row) → each want given rows [] ≡ []
each_none want given [] = refl
each_none want given (r ∷ rows) = refl

not_empty : (xs : List ℕ) → ¬ (xs ≡ []) → 0 < length xs
not_empty [] some = absurd (some refl)
not_empty (x ∷ xs) some = omega arith

kept_none : (s : System) (rows : List Row) → rows ≡ [] → AreKept s rows
kept_none s rows e = subst (AreKept s) (sym e) (All-nil _, omega arith)

records_none : (n : ℕ) (by : List Multipliers) → by ≡ [] → All (IsRecord n) by
records_none n by e = subst (All (IsRecord n)) (sym e) (All-nil _)

-- no location has a loop
pub plain_locations : (s : System) (sets : List Frozen) (c : Certificate) → AreLocations s sets (length sets) c.locations → ArePlain c
plain_locations s sets c located k l at = record {
  no_loop = λ (j, e, got, loop).
      let x : (i : ℕ) × (i < length sets) × (e.kind ≡ Go i []) × IsLedInto s (part_at sets k) (part_at sets i) e.condition =
      (located.each k l at).entries.each j e got in
      subst IsLoopKind x.2 loop;
  no_first = (located.each k l at).first;
  no_around = (located.each k l at).around;
}

pub plain_none : (c : Certificate) → c.locations ≡ [] → ArePlain c
plain_none c none k l at = absurd (none_at c.locations k l none at)

module _ (s : System) (limit : ℕ) (reached : Frozen) (closed : IsClosedSet s reached) (p : Partition) (parted : IsParted s limit reached p)
    (c : Certificate) (located : AreLocations s p.parts (length p.parts) c.locations) (small : limit ≤ 4096) where
  there : (k : ℕ) (l : Location) → slice_get c.locations k ≡ Some l → k < length p.parts
  there k l at = let low : k < length c.locations = slice_get_within c.locations k l at in omega (arith, low, located.size)

  location_at : (k : ℕ) → k < length p.parts → (l : Location) × (slice_get c.locations k ≡ Some l)
  location_at k low = item_at c.locations k (omega (arith, low, located.size))

  entry_of : (k j : ℕ) (l : Location) (e : Entry) → IsEntry c k j l e
      → (i : ℕ) × (i < length p.parts) × (e.kind ≡ Go i []) × IsLedInto s (part_at p.parts k) (part_at p.parts i) e.condition
  entry_of k j l e is = (located.each k l is.location).entries.each j e is.entry

  none_implied : (k j : ℕ) (l : Location) (e : Entry) → IsEntry c k j l e → implications c l e.kind ≡ []
  none_implied k j l e is =
      let x : (i : ℕ) × (i < length p.parts) × (e.kind ≡ Go i []) × IsLedInto s (part_at p.parts k) (part_at p.parts i) e.condition = entry_of k j l e is in
      subst (λ (kind : EntryKind). implications c l kind ≡ []) (sym x.2) (each_none after l.state (rows_into (slice_get c.locations x.0)))

  all_implied : (Q : Implication → Type 0) (k j : ℕ) (l : Location) (e : Entry) → IsEntry c k j l e → All Q (implications c l e.kind)
  all_implied Q k j l e is = subst (λ (xs : List Implication). All Q xs) (sym (none_implied k j l e is)) (All-nil Q)

  kind_counts : (k j : ℕ) (l : Location) (e : Entry) → IsEntry c k j l e → HasKindCounts c l e.kind
  kind_counts k j l e is =
      let x : (i : ℕ) × (i < length p.parts) × (e.kind ≡ Go i []) × IsLedInto s (part_at p.parts k) (part_at p.parts i) e.condition = entry_of k j l e is in
      let into : (l : Location) × (slice_get c.locations x.0 ≡ Some l) = location_at x.0 x.1 in
      subst (HasKindCounts c l) (sym x.2) (into.0, into.1, sym (ap (λ (rows : List Row). length rows) (located.each x.0 into.0 into.1).entry))

  counts : (k : ℕ) (l : Location) → slice_get c.locations k ≡ Some l → HasLocationCounts c l
  counts k l at =
      let is : IsLocationOf s (part_at p.parts k) p.parts l = located.each k l at in
      record {
        by_entry = ap (λ (ms : List Multipliers). length ms) is.by_entry ∙ sym (ap (λ (rows : List Row). length rows) is.state);
        by_first = record {
          some = λ loop. ap (λ (ms : List Multipliers). length ms) is.by_first ∙ sym (ap (λ (rows : List Row). length rows) is.state);
          none = λ no. is.by_first;
        };
        entries = λ j e got. kind_counts k j l e (record { location = at; entry = got });
      }

  few : length c.locations ≤ 4096
  few = omega (arith, located.size, parted.partition.few, parted.limit_is, small)

  location_in_range : (k : ℕ) (l : Location) → slice_get c.locations k ≡ Some l → IsLocationInRange s c l
  location_in_range k l at =
      let is : IsLocationOf s (part_at p.parts k) p.parts l = located.each k l at in
      record {
        control = is.control;
        entry = kept_none s l.entry is.entry;
        first = kept_none s l.first is.first;
        around = kept_none s l.around is.around;
        state = kept_none s l.state is.state;
        by_entry = records_none (length l.entry) l.by_entry is.by_entry;
        by_first = records_none (length l.first) l.by_first is.by_first;
        few = omega (arith, is.entries.few, few, located.size);
        entries = λ j e got. record {
          condition = (entry_of k j l e (record { location = at; entry = got })).3.given;
          by = all_implied (λ x. IsRecord (length {A = Row} x.given + s.tests) x.by × HasDivisor x.wanted x.by.divisor) k j l e
              (record { location = at; entry = got });
        };
      }

  included : (k : ℕ) (l : Location) → slice_get c.locations k ≡ Some l → IsIncluded l
  included k l at =
      let is : IsLocationOf s (part_at p.parts k) p.parts l = located.each k l at in
      record {
        entry = λ n r here. absurd (none_at l.state n r is.state here);
        first = λ loop n r here. absurd (none_at l.state n r is.state here);
        no_first = λ no. is.first;
        no_around = λ no. is.around;
      }

  initial : (v : Valuation) → IsTrue (s.initial v) → (k : ℕ) × (l : Location) × (slice_get c.locations k ≡ Some l) × (l.entry ≡ []) × IsIn l.control v
  initial v h =
      let some : IsInSome p.parts v = (parted.union v).1 (closed.closed.initial v h) in
      let l : (l : Location) × (slice_get c.locations some.0 ≡ Some l) = location_at some.0 some.1 in
      let is : IsLocationOf s (part_at p.parts some.0) p.parts l.0 = located.each some.0 l.0 l.1 in
      (some.0, l.0, l.1, is.entry, is.same v ∙ some.2)

  covered : (k : ℕ) (l : Location) → slice_get c.locations k ≡ Some l → IsCovered s l
  covered k l at v allowed inside =
      let is : IsLocationOf s (part_at p.parts k) p.parts l = located.each k l at in
      let here : has (part_at p.parts k) v ≡ true = sym (is.same v) ∙ inside in
      let whole : IsIn reached v = (parted.union v).0 (k, there k l at, here) in
      let some : IsInSome p.parts (s.next v) = (parted.union (s.next v)).1 (closed.closed.next v allowed whole) in
      is.entries.all v allowed here some.0 some.1 some.2

  leads : (k j : ℕ) (l : Location) (e : Entry) → IsEntry c k j l e → Leads s c l e e.kind
  leads k j l e is =
      let x : (i : ℕ) × (i < length p.parts) × (e.kind ≡ Go i []) × IsLedInto s (part_at p.parts k) (part_at p.parts i) e.condition = entry_of k j l e is in
      let into : (l : Location) × (slice_get c.locations x.0 ≡ Some l) = location_at x.0 x.1 in
      subst (Leads s c l e) (sym x.2) (
        into.0,
        into.1,
        λ v scope. (located.each x.0 into.0 into.1).same (s.next v) ∙ ((x.3.exact v).0 scope.condition).2,
      )

  partition_is : IsPartition s c
  partition_is = record {
    in_range = record { counts = counts; few = few; locations = location_in_range };
    initial = initial;
    included = included;
    covered = covered;
    settled = λ k j l e is. record {
      tests = all_implied (λ i. (t : ℕ) → NamesTest i t → (r : Row) × IsSettledTest s l e t r) k j l e is;
      updates = all_implied (λ i. (m : ℕ) → NeedsUpdate i.wanted m → (f : Form) × IsSettledUpdate s l e m f) k j l e is;
    };
    leads = leads;
    steps = λ k j l e is step. all_implied (IsImplied s l e) k j l e is;
  }

  no_dead : (k j : ℕ) (l : Location) (e : Entry) → IsEntry c k j l e → IsDeadKind e.kind → ⊥
  no_dead k j l e is dead = subst IsDeadKind (entry_of k j l e is).2 dead

  is_step : (k j : ℕ) (l : Location) (e : Entry) → IsEntry c k j l e → IsStepKind e.kind
  is_step k j l e is = subst IsStepKind (sym (entry_of k j l e is).2) tt

  module _ (failing : Frozen) (fails : IsFailingSet s failing) (left : List ℕ) (marks : AreMarked p.parts failing (length p.parts) left) where
    observed : (k j : ℕ) (l : Location) (e : Entry) → IsEntry c k j l e → IsObserved s l e ⊎ Contains left k
    observed k j l e is = ⊎_elim
        (λ (i, at). inr (contains_got left i k at))
        (λ apart. inl (λ v scope. ⊎_elim
        (λ on. on)
        (λ off. absurd (apart v (sym ((located.each k l is.location).same v) ∙ scope.control)
        ((fails.exact v).1 (v, scope.allowed, off, λ x state. refl))))
        (cases_Bool (s.observer v))))
        (marks.each k (there k l is.location))

    marked : (k : ℕ) → Contains left k → (k < length p.parts) × Meets (has (part_at p.parts k)) (has failing)
    marked k (i, low, e) = marks.there i k (slice_get-get_or left i k low ∙ ap Some e)

    used : (k : ℕ) → Contains left k → (j : ℕ) × (l : Location) × (e : Entry) × IsEntry c k j l e × (IsFailingStep s l e ⊎ IsUnrefuted s c l e)
    used k inside =
        let m : (k < length p.parts) × Meets (has (part_at p.parts k)) (has failing) = marked k inside in
        let met : Meets (has (part_at p.parts k)) (has failing) = m.1 in
        let f : IsFailing s met.0 = (fails.exact met.0).0 met.2 in
        let l : (l : Location) × (slice_get c.locations k ≡ Some l) = location_at k m.0 in
        let is : IsLocationOf s (part_at p.parts k) p.parts l.0 = located.each k l.0 l.1 in
        let here : has (part_at p.parts k) f.0 ≡ true = control-value s (part_at p.parts k) f.0 met.0
        (control_of_set s p.state parted.state (part_at p.parts k) (parted.partition.parts.sets k m.0)) f.3 ∙ met.1 in
        let control : IsIn l.0.control f.0 = is.same f.0 ∙ here in
        let e : (j : ℕ) × (e : Entry) × (slice_get l.0.entries j ≡ Some e) × IsIn e.condition f.0 = covered k l.0 l.1 f.0 f.1 control in
        let entry : IsEntry c k e.0 l.0 e.1 = record { location = l.1; entry = e.2 } in (
          e.0,
          l.0,
          e.1,
          entry,
          inl (record {
            step = is_step k e.0 l.0 e.1 entry;
            valuation = f.0;
            scope = record { allowed = f.1; control = control; condition = e.3 };
            fails = f.2;
          }),
        )

    pub is_accepted : left ≡ [] → IsAccepted s c
    is_accepted none = record {
      partition = partition_is;
      observed = λ k j l e is step. ⊎_elim
          (λ h. h)
          (λ (i, low, at). let size : length left ≡ 0 = ap (λ (xs : List ℕ). length xs) none in absurd (omega (arith, low, size)))
          (observed k j l e is);
      dead = λ k j l e is dead. absurd (no_dead k j l e is dead);
    }

    pub is_left : ¬ (left ≡ []) → IsLeftPartition s c left
    is_left some = record {
      partition = partition_is;
      some = not_empty left some;
      there = λ i d low. let m : get_or left i d < length p.parts = (marks.there i (get_or left i d) (slice_get-get_or left i d low)).0 in
          omega (arith, m, located.size);
      rising = marks.rising;
      disjoint = λ k n l m v at_k at_n in_k in_n. parted.partition.parts.disjoint k n v (there k l at_k) (there n m at_n)
          (sym ((located.each k l at_k).same v) ∙ in_k) (sym ((located.each n m at_n).same v) ∙ in_n);
      nonempty = λ k l at. let v : (v : Valuation) × IsIn (part_at p.parts k) v = parted.partition.parts.some k (there k l at) in
          (v.0, (located.each k l at).same v.0 ∙ v.1);
      observed = λ k j l e is step. observed k j l e is;
      dead = λ k j l e is dead. absurd (no_dead k j l e is dead);
      used = used;
    }

    why_is : (why : Why) → IsEnded p.limit p.state failing p.parts why → IsWhy s limit c left why
    why_is (Locations n) (size, is) = (located.size ∙ size ∙ sym is, is ∙ parted.limit_is)
    why_is Stuck over = λ k l inside at.
        let m : (k < length p.parts) × Meets (has (part_at p.parts k)) (has failing) = marked k inside in
        let met : Meets (has (part_at p.parts k)) (has failing) = m.1 in
        let is : IsLocationOf s (part_at p.parts k) p.parts l = located.each k l at in
        ⊎_elim
        (λ apart. absurd (apart met.0 met.1 met.2))
        (λ single. record {
          valuation = met.0;
          control = is.same met.0 ∙ met.1;
          same = λ v here x state. single v met.0 (sym (is.same v) ∙ here) met.1 x (state_is_listed s p.state parted.state x state);
        })
        (over k m.0)

    pub report_right : (why : Why) → IsEnded p.limit p.state failing p.parts why → IsRight s limit (record { partition = c; left = left; why = why })
    report_right why ended = record {
      accepted = is_accepted;
      left_over = λ some. record { partition = is_left some; why = why_is why ended };
    }

-- where no control state is initial
pub none_right : (s : System) (limit : ℕ) (reached : Frozen) (r : LeftReport) → IsClosedSet s reached → AreApart (has reached) (has reached)
    → r.partition.locations ≡ [] → r.left ≡ [] → IsRight s limit r
none_right s limit reached r closed apart none empty = record {
  accepted = λ e. record {
    partition = record {
      in_range = record {
        counts = λ k l at. absurd (none_at r.partition.locations k l none at);
        few = (let size : length r.partition.locations ≡ 0 = ap (λ (xs : List Location). length xs) none in omega (arith, size));
        locations = λ k l at. absurd (none_at r.partition.locations k l none at);
      };
      initial = λ v h. absurd (apart v (closed.closed.initial v h) (closed.closed.initial v h));
      included = λ k l at. absurd (none_at r.partition.locations k l none at);
      covered = λ k l at. absurd (none_at r.partition.locations k l none at);
      settled = λ k j l e is. absurd (none_at r.partition.locations k l none is.location);
      leads = λ k j l e is. absurd (none_at r.partition.locations k l none is.location);
      steps = λ k j l e is. absurd (none_at r.partition.locations k l none is.location);
    };
    observed = λ k j l e is. absurd (none_at r.partition.locations k l none is.location);
    dead = λ k j l e is. absurd (none_at r.partition.locations k l none is.location);
  };
  left_over = λ some. absurd (some empty);
}
