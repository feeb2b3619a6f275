-- A claim grows by what all valuations do that it takes, until it is closed.
use Rattle.std.proofs.Common.{◌≡◌, ℕ, ◌+◌, ◌<◌, ◌≤◌, ℤ, Bool, true, false, ◌||◌, cond, List, length, Option, Some, IsTrue, arith, refl, sym}
use Rattle.std.proofs.Common.{ap, ◌∙◌, ◌++◌, subst, ◌⊎◌, inl, inr, None as Nothing}
use Rattle.std.proofs.{lemmas.Bool.cases_Bool, lemmas.Bool.or_parts, lemmas.Bool.cases_lt, lemmas.Option.none-some, lemmas.List.get_or_past}
use Rattle.std.specs.List.{Contains}
use Rattle.rv_diagram.specs.{Nodes.Valuation, declared.frozen.Frozen.Frozen}
use Rattle.rv_rows.specs.{declared.linear.Row.Row, Rows.row_at, Forms.IsSubstituted, Multipliers.ShowsAtOnce, Multipliers.AreShutAtOnce}
use Rattle.rv_seek.specs.Least.{bounded}
use Rattle.rv_proofs.specs.Systems.{System, IsSystem, HasSameState, updates_of, rows_of}
use Rattle.rv_proofs.specs.RowClaims.{RowClaim, IsRowClaim, IsRowTaken, IsRowClosed, HasTighter, IsRowTighter, premises_at}
use Rattle.rv_proofs.specs.{Scopes.IsIn, Ranges.IsControlSet}
use Rattle.rv_proofs.proofs.{RowTighter.claim-shows, RowTighter.claim-taken}
use Rattle.rv_walk.specs.{Ends.has, Walks.missing}
use Rattle.rv_claims.specs.Order.{IsBelowClosed}
use Rattle.rv_rise.specs.Rounds.{IsFrameOf, IsKeptRisen, IsFirstHeld, HoldsIn, AreSteps, HasTaken, HasGrown, left_of, claim_in}
use Rattle.rv_rise.specs.{declared.frame.Frame.Frame, declared.risen.Risen.Risen, declared.steps.Steps.Steps, Limits.limit_at, Limits.AreRisen}
use Rattle.rv_rise.specs.{Limits.HasChanged, Limits.room, Sides.rows_with}
use Rattle.rv_rise.proofs.{Listing.IsRowAt, Listing.rows_with-has, Listing.rows_with-from, Loosening.changed_le, Loosening.risen_among}
use Rattle.rv_base.proofs.Truths.{either_then}

risen_same : (a b : Risen) → a.reached ≡ b.reached → a.limits ≡ b.limits → a ≡ b
risen_same a b e f =
    ap (λ (x : Frozen). let c : Risen = record { reached = x; limits = a.limits } in c) e
    ∙ ap (λ (x : List (Option ℤ)). let c : Risen = record { reached = b.reached; limits = x } in c) f

module _ (s : System) (is : IsSystem s) (f : Frame) (frame : IsFrameOf s f) (old mid new : Risen) (kept : IsKeptRisen s f old) (x : Steps)
    (steps : AreSteps s f old x) (fresh : Bool) (took : HasTaken s x.next fresh old mid)
    (is_reached : new.reached ≡ mid.reached) (is_limits : new.limits ≡ x.risen.limits) where
  abbrev set : Frozen
  set = x.next

  abbrev base : RowClaim
  base = claim_in f old

  has_new : (v : Valuation) → has new.reached v ≡ (has set v || has old.reached v)
  has_new v = ap (λ (r : Frozen). has r v) is_reached ∙ took.exact v

  risen : AreRisen f.thresholds (HoldsIn s base) f.sides (length old.limits) old.limits new.limits
  risen = subst (λ (os : List (Option ℤ)). AreRisen f.thresholds (HoldsIn s base) f.sides (length old.limits) old.limits os) (sym is_limits) steps.risen

  in_set : (v : Valuation) → IsIn set v → (w : Valuation) × IsRowTaken s base w × HasSameState s (s.next w) v
  in_set v i = let next = steps.next in next.made v i

  states_of : (w : Valuation) → IsRowTaken s base w → 0 < s.states
  states_of w t = kept.states w t.reached

  kept_states : (v : Valuation) → (IsIn set v) ⊎ (IsIn old.reached v) → 0 < s.states
  kept_states v (inl i) = let (w, t, same) = in_set v i in states_of w t
  kept_states v (inr i) = kept.states v i

  tick_same : (v w : Valuation) → 0 < s.states → HasSameState s v w → v 0 ≡ w 0
  tick_same v w some_states same = same 0 (0, some_states, refl)

  kept_ticked : (v : Valuation) → (IsIn set v) ⊎ (IsIn old.reached v) → IsTrue (s.initial v) ⊎ (v 0 ≡ true)
  kept_ticked v (inl i) = let (w, t, same) = in_set v i in inr (sym (tick_same (s.next w) v (states_of w t) same) ∙ is.ticks w)
  kept_ticked v (inr i) = kept.ticked v i

  either : (v : Valuation) → IsIn new.reached v → (IsIn set v) ⊎ (IsIn old.reached v)
  either v i = go (either_then (has set v) (has old.reached v) (sym (has_new v) ∙ i))
    where
      go : (has set v ≡ true) ⊎ ((has set v ≡ false) × (has old.reached v ≡ true)) → (IsIn set v) ⊎ (IsIn old.reached v)
      go (inl e) = inl e
      go (inr (d, e)) = inr e

  from_old : (v : Valuation) → IsIn old.reached v → IsIn new.reached v
  from_old v i = has_new v ∙ ap (λ b. has set v || b) i ∙ or_true (has set v)
    where
      or_true : (b : Bool) → (b || true) ≡ true
      or_true true = refl
      or_true false = refl

  from_set : (v : Valuation) → IsIn set v → IsIn new.reached v
  from_set v i = has_new v ∙ ap (λ b. b || has old.reached v) i

  new_kept : IsKeptRisen s f new
  new_kept = record {
    control = subst (λ (r : Frozen). IsControlSet s r) (sym is_reached) took.control;
    initial = λ v i. from_old v (kept.initial v i);
    ticked = λ v i. kept_ticked v (either v i);
    states = λ v i. kept_states v (either v i);
    size = risen.size ∙ kept.size;
    among = risen_among f.thresholds (HoldsIn s base) f.sides old.limits new.limits risen kept.among;
  }

  module _ (m : IsBelowClosed s f.thresholds base) (d : RowClaim) (claim : IsRowClaim s f.thresholds d) (closed : IsRowClosed s d) where
    tighter : IsRowTighter base d
    tighter = m d claim closed

    below_reached : (v : Valuation) → (IsIn set v) ⊎ (IsIn old.reached v) → IsTrue (d.reached v)
    below_reached v (inl i) =
        let (w, t, same) = in_set v i in
        sym (claim.reached (s.next w) v same) ∙ closed.next w (claim-taken s f.thresholds base d claim tighter w t)
    below_reached v (inr i) = let h = tighter in h.reached v i

    -- a row of the other claim is shown wherever this one takes a valuation
    shown_of : (r : Row) → Contains d.rows r → HoldsIn s base r.coefficients r.bound
    shown_of r known v t =
        let (after, sub, shows) = closed.rows v (claim-taken s f.thresholds base d claim tighter v t) r known in
        (after, sub, claim-shows s f.thresholds base d claim tighter v after shows)

    below_row : (r : Row) → Contains d.rows r → HasTighter (rows_with f.sides old.limits) r → HasTighter (rows_with f.sides new.limits) r
    below_row r known (q, held, same, low) = go (rows_with-from f.sides old.limits q held)
      where
        go : IsRowAt f.sides old.limits q → HasTighter (rows_with f.sides new.limits) r
        go at =
            let size = kept.size in
            let l = at.there in
            let step = risen.each at.place (omega (arith, size, l)) in
            let known_bound = (claim.rows r known).bound in
            let side : r.coefficients ≡ (row_at f.sides at.place).coefficients = sym same ∙ at.side in
            let shown = subst (λ (cs : List ℤ). HoldsIn s base cs r.bound) side (shown_of r known) in
            let (b, is_b, le) = step.least q.bound r.bound at.limit low (inr known_bound) shown in
            (bounded (row_at f.sides at.place).coefficients b, rows_with-has f.sides new.limits at.place b l is_b, sym side, le)

    below : IsRowTighter (claim_in f new) d
    below = record {
      reached = λ v i. below_reached v (either v i);
      rows = λ r known. let h = tighter in below_row r known (h.rows r known);
    }

  limits_still : x.risen.changed ≡ false → new.limits ≡ old.limits
  limits_still e = is_limits ∙ subst (λ (b : Bool). HasChanged b old.limits x.risen.limits) e steps.changed

  still : (fresh ≡ false) × (x.risen.changed ≡ false) → new ≡ old
  still (a, b) = risen_same new old (is_reached ∙ ap (λ (y : Risen). y.reached) (took.still a)) (limits_still b)

  held_row : (v : Valuation) → IsRowTaken s base v → (r : Row) → IsRowAt f.sides new.limits r
      → (after : Row) × IsSubstituted r (updates_of s v) after × ShowsAtOnce (premises_at s base v) after
  held_row v t r at =
      let size = kept.size in
      let l = at.there in
      let step = risen.each at.place (omega (arith, size, l)) in
      (subst (λ (cs : List ℤ). HoldsIn s base cs r.bound) (sym at.side) (step.held r.bound at.limit)) v t

  led : (v : Valuation) → (IsIn set (s.next v)) ⊎ IsTrue (base.reached (s.next v)) → IsIn new.reached (s.next v)
  led v (inl i) = from_set (s.next v) i
  led v (inr i) = from_old (s.next v) i

  -- initial valuations, at which no row of a claim counts
  first_rows : (c : RowClaim) (v : Valuation) → IsTrue (s.initial v) → premises_at s c v ≡ rows_of s v
  first_rows c v i = ap (λ (b : Bool). cond b (rows_of s v ++ c.rows) (rows_of s v)) (is.unticked v i)

  first_taken : (v : Valuation) → IsTrue (s.initial v) → IsRowTaken s (claim_in f new) v → IsRowTaken s base v
  first_taken v i t = record {
    allowed = t.allowed;
    reached = kept.initial v i;
    is_open = λ shut. t.is_open (subst AreShutAtOnce (first_rows base v i ∙ sym (first_rows (claim_in f new) v i)) shut);
  }

  limit_low : (k : ℕ) (b : ℤ) → limit_at new.limits k ≡ Some b → k < length old.limits
  limit_low k b at = go (cases_lt k (length old.limits))
    where
      go : (k < length old.limits) ⊎ (length old.limits ≤ k) → k < length old.limits
      go (inl l) = l
      go (inr m) = absurd (none-some b (sym (get_or_past new.limits k Nothing (omega (arith, m, risen.size))) ∙ at))

  first_held : IsFirstHeld s f new
  first_held = record {
    next = λ v i t. let next = steps.next in led v (next.there v (first_taken v i t));
    rows = λ k b at v i t.
        let step = risen.each k (limit_low k b at) in
        let (after, sub, shows) = step.held b at v (first_taken v i t) in
        (after, sub, subst (λ (rs : List Row). ShowsAtOnce rs after) (first_rows base v i ∙ sym (first_rows (claim_in f new) v i)) shows);
  }

  closed_there : new ≡ old → IsRowClosed s (claim_in f new)
  closed_there e = record {
    initial = λ v i. from_old v (kept.initial v i);
    next = λ v t. let next = steps.next in led v (next.there v (back v t));
    rows = λ v t r known.
        let (after, sub, shows) = held_row v (back v t) r (rows_with-from f.sides new.limits r known) in
        (after, sub, subst (λ (y : Risen). ShowsAtOnce (premises_at s (claim_in f y) v) after) (sym e) shows);
  }
    where
      back : (v : Valuation) → IsRowTaken s (claim_in f new) v → IsRowTaken s base v
      back v t = subst (λ (y : Risen). IsRowTaken s (claim_in f y) v) e t

  -- there is less left, in all parts or in none
  limits_le : room new.limits ≤ room old.limits
  limits_le = subst (λ (os : List (Option ℤ)). room os ≤ room old.limits) (sym is_limits)
      (changed_le x.risen.changed old.limits x.risen.limits steps.changed)

  limits_less : x.risen.changed ≡ true → room new.limits < room old.limits
  limits_less e = subst (λ (os : List (Option ℤ)). room os < room old.limits) (sym is_limits)
      (subst (λ (b : Bool). HasChanged b old.limits x.risen.limits) e steps.changed)

  reached_less : fresh ≡ true → (v : Valuation) → missing s.states (has new.reached) v < missing s.states (has old.reached) v
  reached_less e v = subst (λ (r : Frozen). missing s.states (has r) v < missing s.states (has old.reached) v) (sym is_reached) (took.less e v)

  reached_le : (v : Valuation) → missing s.states (has new.reached) v ≤ missing s.states (has old.reached) v
  reached_le v = go (cases_Bool fresh)
    where
      go : (fresh ≡ true) ⊎ (fresh ≡ false) → missing s.states (has new.reached) v ≤ missing s.states (has old.reached) v
      go (inl e) = let l = reached_less e v in omega (arith, l)
      go (inr e) =
          let q : missing s.states (has new.reached) v ≡ missing s.states (has old.reached) v = ap (λ (r : Frozen). missing s.states (has r) v)
          (is_reached ∙ ap (λ (y : Risen). y.reached) (took.still e)) in
          omega (arith, q)

  less : (fresh || x.risen.changed) ≡ true → (v : Valuation) → left_of s.states new v < left_of s.states old v
  unfolding left_of
  less e v = go (either_then fresh x.risen.changed e)
    where
      go : (fresh ≡ true) ⊎ ((fresh ≡ false) × (x.risen.changed ≡ true)) → left_of s.states new v < left_of s.states old v
      go (inl d) = let l = limits_le in let n = reached_less d v in omega (arith, l, n)
      go (inr (_, d)) = let l = limits_less d in let n = reached_le v in omega (arith, l, n)

  grown : HasGrown s f (fresh || x.risen.changed) old new
  grown = record {
    kept = new_kept;
    below = λ m d claim closed. below m d claim closed;
    still = λ e. still (or_parts fresh x.risen.changed e);
    closed = λ e. closed_there (still (or_parts fresh x.risen.changed e));
    first = first_held;
    less = less;
  }

  pub grown_taken : (changed : Bool) → changed ≡ (fresh || x.risen.changed) → HasGrown s f changed old new
  grown_taken changed e = subst (λ (b : Bool). HasGrown s f b old new) (sym e) grown

-- each round leaves less, or is the last
pub round_smaller : (s : System) (f : Frame) (n : ℕ) (more was : Bool) (old new : Risen) → n ≡ s.states → was ≡ true → HasGrown s f more old new
    → left_of n new (λ x. false) + cond more 1 0 < left_of n old (λ x. false) + cond was 1 0
round_smaller s f n more true old new e on g = go more refl
  where
    go : (b : Bool) → more ≡ b → left_of n new (λ x. false) + cond b 1 0 < left_of n old (λ x. false) + 1
    go true is =
        let l : left_of s.states new (λ x. false) < left_of s.states old (λ x. false) = g.less is (λ x. false) in
        let m : left_of n new (λ x. false) < left_of n old (λ x. false) = subst (λ (k : ℕ). left_of k new (λ x. false) < left_of k old (λ x. false))
        (sym e) l in
        omega (arith, m)
    go false is =
        let q : left_of n new (λ x. false) ≡ left_of n old (λ x. false) = ap (λ (c : Risen). left_of n c (λ x. false)) (g.still is) in
        omega (arith, q)
round_smaller s f n more false old new e on g = cc
