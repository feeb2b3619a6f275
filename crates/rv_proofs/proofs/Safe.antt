-- An accepted certificate is an inductive invariant.
use Rattle.std.proofs.Common.{◌≡◌, ℕ, zero, suc, ◌+◌, ◌<◌, ℤ, List, [], ◌∷◌, ◌++◌, length, get_or, All, Some, IsTrue, slice_get, arith, ap, sym, ◌∙◌, subst}
use Rattle.std.proofs.Common.{◌⊎◌, inl, inr, add-one}
use Rattle.std.proofs.lemmas.List.Elements.{All-append, All-head, All-tail, All-nil, All-cons}
use Rattle.std.proofs.lemmas.Option.{slice_get-get_or, same_Some}
use Rattle.rv_diagram.specs.Nodes.{Valuation}
use Rattle.rv_rows.specs.{declared.linear.Row.Row, declared.farkas.Multipliers.Multipliers, Rows.Holds, Forms.number, Forms.value}
use Rattle.rv_rows.proofs.RowLemmas.{proves_sound}
use Rattle.rv_proofs.specs.Scopes.{IsIn, IsInScope, refutation, before, after, each, implications, rows_into}
use Rattle.rv_proofs.specs.Accepted.{AreProved, IsIncluded, IsAccepted, IsEntry, Leads, IsStepKind, IsDeadKind, IsObserved}
use Rattle.rv_proofs.specs.Runs.{AllHold, IsStepBy, IsWithin, IsInvariant, KeepsInvariant, IsSafeSystem}
use Rattle.rv_proofs.specs.{Systems.System, Systems.Agrees, Systems.HasSameState, Counts.HasLoop, Counts.IsLoopKind, Counts.HasKindCounts, Implied.IsImplied}
use Rattle.rv_proofs.specs.{declared.certificate.Certificate.Certificate, declared.certificate.Location.Location, declared.certificate.Entry.Entry}
use Rattle.rv_proofs.specs.{declared.certificate.EntryKind.EntryKind, declared.certificate.EntryKind.TheVariants.Dead}
use Rattle.rv_proofs.specs.{declared.certificate.EntryKind.TheVariants.Go, declared.certificate.EntryKind.TheVariants.Loop}
use Rattle.rv_proofs.proofs.{Named.proved-holds, Named.refuted-none, Moved.moved-holds, ControlReads.control_same}
use Rattle.rv_base.proofs.Lists.{all_left as All-front, all_right as All-back}

-- the rows that multipliers prove hold where the premises do
proved_all : (given wanted : List Row) (by : List Multipliers) (point : List ℤ) → AreProved given wanted by → AllHold given point → AllHold wanted point
proved_all given wanted by point h holds k d l =
    let proof = h k (get_or wanted k d) (slice_get-get_or wanted k d l) in
    proves_sound given (get_or wanted k d) proof.0 proof.2 point holds

dead_none : (s : System) (c : Certificate) (l : Location) (e : Entry) (v : Valuation) (point : List ℤ) → IsInScope s l e v → Agrees s v point
    → (m : Multipliers) → AllHold l.state point → All (IsImplied s l e) (implications c l (Dead m)) → ⊥
dead_none s c l e v point scope a m holds h =
    let implied = All-head (IsImplied s l e) (record { given = l.state; wanted = refutation; by = m }) [] h in
    refuted-none s l e (record { given = l.state; wanted = refutation; by = m }) implied.0 v implied.1 scope point a holds implied.2

-- what holds at one entry, at a valuation of its scope and a point that agrees with it
module _ (s : System) (c : Certificate) (l : Location) (e : Entry) (v : Valuation) (point next : List ℤ)
    (scope : IsInScope s l e v) (a : Agrees s v point)
    (updated : (k : ℕ) → k < s.memories → number k next ≡ value (s.update v k) point) where
  one_before : (given : List Row) (r : Row) (m : Multipliers) → AllHold given point
      → IsImplied s l e (record { given = given; wanted = before r; by = m }) → Holds r point
  one_before given r m holds (rows, are, proof) = proved-holds s l e (record { given = given; wanted = before r; by = m }) rows v are scope point a holds r
      proof

  one_after : (given : List Row) (r : Row) (m : Multipliers) → AllHold given point
      → IsImplied s l e (record { given = given; wanted = after r; by = m }) → Holds r next
  one_after given r m holds (rows, are, proof) =
      moved-holds s l e v r proof.1 proof.0 point next scope proof.2 proof.3 updated
      (proved-holds s l e (record { given = given; wanted = after r; by = m }) rows v are scope point a holds proof.1 proof.4)

  -- each row of a list, which has as many multipliers
  all_before : (given rs : List Row) (ms : List Multipliers) → length ms ≡ length rs → AllHold given point
      → All (IsImplied s l e) (each before given rs ms) → AllHold rs point
  all_before given [] ms n holds h = All-nil (λ r. Holds r point)
  all_before given (r ∷ rs) [] n holds h = absurd (omega arith)
  all_before given (r ∷ rs) (m ∷ ms) n holds h =
      All-cons (λ q. Holds q point) r rs
      (one_before given r m holds (All-head (IsImplied s l e) (record { given = given; wanted = before r; by = m }) (each before given rs ms) h))
      (all_before given rs ms (omega arith) holds (All-tail (IsImplied s l e) (record { given = given; wanted = before r; by = m })
      (each before given rs ms) h))

  all_after : (given rs : List Row) (ms : List Multipliers) → length ms ≡ length rs → AllHold given point
      → All (IsImplied s l e) (each after given rs ms) → AllHold rs next
  all_after given [] ms n holds h = All-nil (λ r. Holds r next)
  all_after given (r ∷ rs) [] n holds h = absurd (omega arith)
  all_after given (r ∷ rs) (m ∷ ms) n holds h =
      All-cons (λ q. Holds q next) r rs
      (one_after given r m holds (All-head (IsImplied s l e) (record { given = given; wanted = after r; by = m }) (each after given rs ms) h))
      (all_after given rs ms (omega arith) holds (All-tail (IsImplied s l e) (record { given = given; wanted = after r; by = m }) (each after given rs ms) h))

  -- a step leads into the entry of its target
  go_entry : (target : ℕ) (reach : List Multipliers) (into : Location) → slice_get c.locations target ≡ Some into → HasKindCounts c l (Go target reach)
      → All (IsImplied s l e) (implications c l (Go target reach)) → AllHold l.state point → AllHold into.entry next
  go_entry target reach into at counts steps holds =
      let rows : rows_into (slice_get c.locations target) ≡ into.entry = ap rows_into at in
      let implied : All (IsImplied s l e) (each after l.state into.entry reach) = subst (λ rs. All (IsImplied s l e) (each after l.state rs reach)) rows
      steps in
      let one : counts.0 ≡ into = same_Some _ _ (sym counts.1 ∙ at) in
      let many : length reach ≡ length into.entry = counts.2 ∙ ap (λ m. length m.entry) one in
      all_after l.state into.entry reach many holds implied

  -- a turn of a loop: from `entry` into `first`, and from there, or from `around` and `state`, into these two
  module _ (first before_all around state : List Multipliers) (counts : HasKindCounts c l (Loop first before_all around state))
      (steps : All (IsImplied s l e) (implications c l (Loop first before_all around state))) where
    rest1 : All (IsImplied s l e)
        (each before l.first l.around before_all ++ (each after (l.around ++ l.state) l.around around ++ each after (l.around ++ l.state) l.state state))
    rest1 = All-back (IsImplied s l e) (each after l.entry l.first first) _ steps

    rest2 : All (IsImplied s l e) (each after (l.around ++ l.state) l.around around ++ each after (l.around ++ l.state) l.state state)
    rest2 = All-back (IsImplied s l e) (each before l.first l.around before_all) _ rest1

    loop_first : AllHold l.entry point → AllHold l.first next
    loop_first h = all_after l.entry l.first first counts.0 h (All-front (IsImplied s l e) (each after l.entry l.first first) _ steps)

    loop_before : AllHold l.first point → AllHold l.around point
    loop_before h = all_before l.first l.around before_all counts.1 h (All-front (IsImplied s l e) (each before l.first l.around before_all) _ rest1)

    loop_around : AllHold l.around point → AllHold l.state point → AllHold l.around next × AllHold l.state next
    loop_around h holds =
        let both : AllHold (l.around ++ l.state) point = All-append (λ r. Holds r point) l.around l.state h holds in
        let around_steps = All-front (IsImplied s l e) (each after (l.around ++ l.state) l.around around) _ rest2 in
        let state_steps = All-back (IsImplied s l e) (each after (l.around ++ l.state) l.around around) _ rest2 in (
          all_after (l.around ++ l.state) l.around around counts.2 both around_steps,
          all_after (l.around ++ l.state) l.state state counts.3 both state_steps,
        )

-- what a location always has
pub in_state : (l : Location) (point : List ℤ) → IsIncluded l → IsWithin l point → AllHold l.state point
in_state l point inc (inl h) = proved_all l.entry l.state l.by_entry point inc.entry h
in_state l point inc (inr (has, inl h)) = proved_all l.first l.state l.by_first point (inc.first has) h
in_state l point inc (inr (has, inr h)) = h.1

module _ (s : System) (c : Certificate) (acc : IsAccepted s c) (v : Valuation) (point : List ℤ) (a : Agrees s v point) (allowed : IsTrue (s.allowed v)) where
  -- at one entry of one location
  module _ (k : ℕ) (l : Location) (at : slice_get c.locations k ≡ Some l) (control : IsIn l.control v) (within : IsWithin l point)
      (j : ℕ) (e : Entry) (there : slice_get l.entries j ≡ Some e) (condition : IsIn e.condition v) where
    entry_is : IsEntry c k j l e
    entry_is = record { location = at; entry = there }

    scope : IsInScope s l e v
    scope = record { allowed = allowed; control = control; condition = condition }

    stays : AllHold l.state point
    stays = in_state l point (acc.partition.included k l at) within

    -- the observer is true, since a dead entry has no such point
    observed_here : IsTrue (s.observer v)
    observed_here = go e.kind (acc.observed k j l e entry_is) (acc.dead k j l e entry_is)
      where
        go : (kind : EntryKind) → (IsStepKind kind → IsObserved s l e) → (IsDeadKind kind → All (IsImplied s l e) (implications c l kind))
            → IsTrue (s.observer v)
        go (Dead by) seen dead = absurd (dead_none s c l e v point scope a by stays (dead tt))
        go _ seen dead = seen tt v scope

    -- the next state is in the invariant
    module _ (w : Valuation) (next : List ℤ) (same : HasSameState s (s.next v) w)
        (updated : (n : ℕ) → n < s.memories → number n next ≡ value (s.update v n) point) where
      enters : (n : ℕ) (into : Location) → slice_get c.locations n ≡ Some into → IsIn into.control (s.next v) → IsIn into.control w
      enters n into has h = control_same s into.control (s.next v) w (acc.partition.in_range.locations n into has).control same h

      turned : (first before_all around state : List Multipliers) → HasKindCounts c l (Loop first before_all around state)
          → All (IsImplied s l e) (implications c l (Loop first before_all around state)) → HasLoop l → IsWithin l next
      turned first before_all around state counts steps has = go within
        where
          go : IsWithin l point → IsWithin l next
          go (inl h) = inr (has, inl (loop_first s c l e v point next scope a updated first before_all around state counts steps h))
          go (inr (there, inl h)) =
              let first_around = loop_before s c l e v point next scope a updated first before_all around state counts steps h in
              inr (has, inr (loop_around s c l e v point next scope a updated first before_all around state counts steps first_around stays))
          go (inr (there, inr h)) = inr (has, inr (loop_around s c l e v point next scope a updated first before_all around state counts steps h.0 stays))

      step_here : IsInvariant c w next
      step_here = go e.kind ((acc.partition.in_range.counts k l at).entries j e there) (acc.partition.steps k j l e entry_is) (acc.dead k j l e entry_is)
          (acc.partition.leads k j l e entry_is) (λ is. (j, e, there, is))
        where
          go : (kind : EntryKind) → HasKindCounts c l kind → (IsStepKind kind → All (IsImplied s l e) (implications c l kind))
              → (IsDeadKind kind → All (IsImplied s l e) (implications c l kind)) → Leads s c l e kind → (IsLoopKind kind → HasLoop l) → IsInvariant c w next
          go (Dead by) counts steps dead leads loop = absurd (dead_none s c l e v point scope a by stays (dead tt))
          go (Go target reach) counts steps dead leads loop =
              let into = leads.0 in (
                target,
                into,
                leads.1,
                enters target into leads.1 (leads.2 v scope),
                inl (go_entry s c l e v point next scope a updated target reach into leads.1 counts (steps tt) stays),
              )
          go (Loop first before_all around state) counts steps dead leads loop =
              (k, l, at, enters k l at (leads v scope), turned first before_all around state counts (steps tt) (loop tt))

  pub observed_at : IsInvariant c v point → IsTrue (s.observer v)
  observed_at (k, l, at, control, within) =
      let (j, e, there, condition) = acc.partition.covered k l at v allowed control in
      observed_here k l at control within j e there condition

  pub step_at : (w : Valuation) (next : List ℤ) → HasSameState s (s.next v) w → ((n : ℕ) → n < s.memories → number n next ≡ value (s.update v n) point)
      → IsInvariant c v point → IsInvariant c w next
  step_at w next same updated (k, l, at, control, within) =
      let (j, e, there, condition) = acc.partition.covered k l at v allowed control in
      step_here k l at control within j e there condition w next same updated

-- it holds at first
pub starts_at : (s : System) (c : Certificate) (v : Valuation) (point : List ℤ) → IsAccepted s c → IsTrue (s.initial v) → IsInvariant c v point
starts_at s c v point acc start =
    let (k, l, at, empty, control) = acc.partition.initial v start in
    (k, l, at, control, inl (rw empty (All-nil (λ r. Holds r point))))

pub keeps_invariant : (s : System) (c : Certificate) → IsAccepted s c → KeepsInvariant s c
keeps_invariant s c acc n zero vs points run less allowed = starts_at s c (vs 0) (points 0) acc run.start
keeps_invariant s c acc n (suc t) vs points run less allowed =
    let earlier = keeps_invariant s c acc n t vs points run (omega arith) (λ u h. allowed u (omega arith)) in
    let found : IsInvariant c (vs (t + 1)) (points (t + 1))
    = step_at s c acc (vs t) (points t) (run.agrees t (omega arith)) (allowed t (omega arith)) (vs (t + 1)) (points (t + 1))
    (run.control t (omega arith)) (λ k h. run.memories t k (omega arith) h) earlier in
    subst (λ u. IsInvariant c (vs u) (points u)) (add-one t) found

pub is_safe : (s : System) (c : Certificate) → IsAccepted s c → IsSafeSystem s
is_safe s c acc n t vs points run less allowed =
    observed_at s c acc (vs t) (points t) (run.agrees t less) (allowed t (omega arith))
    (keeps_invariant s c acc n t vs points run less (λ u h. allowed u (omega arith)))

-- what an entry of an accepted certificate leads to
module _ (s : System) (c : Certificate) (acc : IsAccepted s c) (k j : ℕ) (l : Location) (e : Entry) (is : IsEntry c k j l e)
    (v : Valuation) (point next : List ℤ) (step : IsStepBy s l e v point next) where
  counts_here : HasKindCounts c l e.kind
  counts_here = (acc.partition.in_range.counts k l is.location).entries j e is.entry

  steps_here : IsStepKind e.kind → All (IsImplied s l e) (implications c l e.kind)
  steps_here = acc.partition.steps k j l e is

  pub go_leads : (target : ℕ) (reach : List Multipliers) (into : Location) → e.kind ≡ Go target reach → slice_get c.locations target ≡ Some into
      → AllHold l.state point → AllHold into.entry next
  go_leads target reach into kind at holds = go_entry s c l e v point next step.scope step.agrees step.memories target reach into at
      (subst (HasKindCounts c l) kind counts_here) (subst (λ o. IsStepKind o → All (IsImplied s l e) (implications c l o)) kind steps_here tt) holds

  pub loop_leads : (first before_all around state : List Multipliers) → e.kind ≡ Loop first before_all around state → AllHold l.entry point
      → AllHold l.first next
  loop_leads first before_all around state kind holds = loop_first s c l e v point next step.scope step.agrees step.memories first before_all around state
      (subst (HasKindCounts c l) kind counts_here) (subst (λ o. IsStepKind o → All (IsImplied s l e) (implications c l o)) kind steps_here tt) holds

  pub loop_stays : (first before_all around state : List Multipliers) → e.kind ≡ Loop first before_all around state
      → AllHold l.first point ⊎ (AllHold l.around point × AllHold l.state point) → AllHold l.around next × AllHold l.state next
  loop_stays first before_all around state kind = go
    where
      counts : HasKindCounts c l (Loop first before_all around state)
      counts = subst (HasKindCounts c l) kind counts_here

      steps : All (IsImplied s l e) (implications c l (Loop first before_all around state))
      steps = subst (λ o. IsStepKind o → All (IsImplied s l e) (implications c l o)) kind steps_here tt

      has : HasLoop l
      has = (j, e, is.entry, subst IsLoopKind (sym kind) tt)

      around_next : AllHold l.around point → AllHold l.state point → AllHold l.around next × AllHold l.state next
      around_next = loop_around s c l e v point next step.scope step.agrees step.memories first before_all around state counts steps

      go : AllHold l.first point ⊎ (AllHold l.around point × AllHold l.state point) → AllHold l.around next × AllHold l.state next
      go (inl h) = around_next
          (loop_before s c l e v point next step.scope step.agrees step.memories first before_all around state counts steps h)
          (in_state l point (acc.partition.included k l is.location) (inr (has, inl h)))
      go (inr h) = around_next h.0 h.1
