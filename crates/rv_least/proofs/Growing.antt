-- A claim grows by what all valuations do that it takes, until it is closed.
use Rattle.std.proofs.Common.{◌≡◌, ℕ, ◌+◌, ◌<◌, ◌≤◌, ℤ, pos, negsuc, ◌-ℤ◌, ◌*ℤ◌, ◌≤ℤ◌, Bool, true, false, ◌||◌, cond, List, length, Option, Some, IsTrue, arith}
use Rattle.std.proofs.Common.{refl, sym}
use Rattle.std.proofs.Common.{ap, ◌∙◌, subst, ◌⊎◌, ⊎_elim, inl, inr, None as Nothing}
use Rattle.std.proofs.{lemmas.Int.ints, lemmas.Bool.cases_lt, lemmas.Bool.cases_Bool, lemmas.Bool.or_parts, lemmas.Option.none-some, lemmas.List.get_or_past}
use Rattle.std.specs.List.{Contains}
use Rattle.rv_diagram.specs.{Nodes.Valuation, declared.frozen.Frozen.Frozen}
use Rattle.rv_rows.specs.Forms.{value}
use Rattle.rv_proofs.specs.Systems.{System, IsSystem, HasSameState}
use Rattle.rv_proofs.specs.{Scopes.IsIn, Ranges.IsControlSet, Reached.IsTighter, Boxes.BoxClaim, Boxes.IsBoxClaim, Boxes.IsTaken, Boxes.IsClosed}
use Rattle.rv_proofs.proofs.Leasts.{box_within, taken_within}
use Rattle.rv_walk.specs.{Ends.has, Walks.missing}
use Rattle.rv_boxes.specs.{declared.frame.Frame.Frame, declared.claim.Claim.Claim, Limits.limit_at, Limits.AreAmong, Limits.HaveNotFallen, Limits.HasChanged}
use Rattle.rv_boxes.specs.{Limits.room, Opening.IsFrameOf, Orders.IsBelowClosed, Claiming.turned, Claiming.claim_of}
use Rattle.rv_boxes.specs.Rounds.{IsHeld, IsKeptClaim, IsAbove, HasGrown, HasTaken, left_of}
use Rattle.rv_boxes.proofs.{Composing.turned_back, Limiting.changed_le, Rounding.kept_claim, Stepping.claim_same, Stepping.opposite_in}
use Rattle.rv_least.specs.{declared.rounds.Steps.Steps, declared.rounds.Round.Round, Rising.HoldsAt, Rising.AreRisen}
use Rattle.rv_least.specs.Rounds.{AreSteps, IsRound, IsSettled, IsLeastOf}
use Rattle.rv_base.proofs.Truths.{either_then}

-- risen limits stay among the thresholds, none has fallen, and each holds afterwards
module _ (s : System) (c : BoxClaim) (thresholds : List ℤ) (sign : ℤ) (old new : List (Option ℤ))
    (are : AreRisen s c thresholds sign (length old) old new) where
  none_past : (k : ℕ) (b : ℤ) → length old ≤ k → limit_at new k ≡ Some b → ⊥
  none_past k b m at = let size = are.size in none-some b (sym (get_or_past new k Nothing (omega (arith, size, m))) ∙ at)

  pub risen_among : AreAmong thresholds old → AreAmong thresholds new
  risen_among among k b at = go (cases_lt k (length old))
    where
      of : (limit_at old k ≡ Some b) ⊎ Contains thresholds b → Contains thresholds b
      of (inl e) = among k b e
      of (inr has) = has

      go : (k < length old) ⊎ (length old ≤ k) → Contains thresholds b
      go (inl l) = let r = are.each k l in of (r.among b at)
      go (inr m) = absurd (none_past k b m at)

  pub risen_above : HaveNotFallen old new
  risen_above k b at = go (cases_lt k (length old))
    where
      go : (k < length old) ⊎ (length old ≤ k) → (a : ℤ) × (limit_at old k ≡ Some a) × (a ≤ℤ b)
      go (inl l) = let r = are.each k l in r.rises b at
      go (inr m) = absurd (none_past k b m at)

  pub risen_held : (k : ℕ) (b : ℤ) → limit_at new k ≡ Some b → HoldsAt s c k sign b
  risen_held k b at = go (cases_lt k (length old))
    where
      go : (k < length old) ⊎ (length old ≤ k) → HoldsAt s c k sign b
      go (inl l) = let r = are.each k l in r.held b at
      go (inr m) = absurd (none_past k b m at)

-- arithmetic with signs
plus_up : (x b : ℤ) → x ≤ℤ b → (pos 1 *ℤ x) ≤ℤ b
plus_up x b l = omega (arith, ints)

plus_down : (x b : ℤ) → (pos 1 *ℤ x) ≤ℤ b → x ≤ℤ b
plus_down x b l = omega (arith, ints)

minus_up : (x b : ℤ) → b ≤ℤ x → (negsuc 0 *ℤ x) ≤ℤ (pos 0 -ℤ b)
minus_up x b l = omega (arith, ints)

minus_down : (x b : ℤ) → (negsuc 0 *ℤ x) ≤ℤ (pos 0 -ℤ b) → b ≤ℤ x
minus_down x b l = omega (arith, ints)

flip : (a b : ℤ) → b ≤ℤ a → (pos 0 -ℤ a) ≤ℤ (pos 0 -ℤ b)
flip a b l = omega (arith, ints)

unflip : (a b : ℤ) → a ≤ℤ (pos 0 -ℤ b) → b ≤ℤ (pos 0 -ℤ a)
unflip a b l = omega (arith, ints)

module _ (s : System) (is : IsSystem s) (f : Frame) (frame : IsFrameOf s f) (old mid new : Claim) (kept : IsKeptClaim s f old) (x : Steps)
    (steps : AreSteps s f old x) (fresh : Bool) (took : HasTaken s x.next.set fresh old mid)
    (is_reached : new.reached ≡ mid.reached) (is_upper : new.upper ≡ x.upper.limits) (is_lower : new.lower ≡ x.lower.limits) where
  abbrev set : Frozen
  set = x.next.set

  abbrev base : BoxClaim
  base = claim_of old

  has_new : (v : Valuation) → has new.reached v ≡ (has set v || has old.reached v)
  has_new v = ap (λ (r : Frozen). has r v) is_reached ∙ took.exact v

  above : AreRisen s base f.thresholds (pos 1) (length old.upper) old.upper new.upper
  above = subst (λ (os : List (Option ℤ)). AreRisen s base f.thresholds (pos 1) (length old.upper) old.upper os) (sym is_upper) steps.upper

  under : AreRisen s base f.opposites (negsuc 0) (length old.lower) old.lower new.lower
  under = subst (λ (os : List (Option ℤ)). AreRisen s base f.opposites (negsuc 0) (length old.lower) old.lower os) (sym is_lower) steps.lower

  in_set : (v : Valuation) → IsIn set v → (w : Valuation) × IsTaken s base w × HasSameState s (s.next w) v
  in_set v i = let next = steps.next in next.made v i

  states_of : (w : Valuation) → IsTaken s base w → 0 < s.states
  states_of w t = kept.states w t.reached

  kept_states : (v : Valuation) → (IsIn set v) ⊎ (IsIn old.reached v) → 0 < s.states
  kept_states v (inl i) = let (w, t, same) = in_set v i in states_of w t
  kept_states v (inr i) = kept.states v i

  tick_same : (v w : Valuation) → 0 < s.states → HasSameState s v w → v 0 ≡ w 0
  tick_same v w some_states same = same 0 (0, some_states, refl)

  kept_ticked : (v : Valuation) → (IsIn set v) ⊎ (IsIn old.reached v) → IsTrue (s.initial v) ⊎ (v 0 ≡ true)
  kept_ticked v (inl i) = let (w, t, same) = in_set v i in inr (sym (tick_same (s.next w) v (states_of w t) same) ∙ is.ticks w)
  kept_ticked v (inr i) = kept.ticked v i

  either : (v : Valuation) → IsIn new.reached v → (IsIn set v) ⊎ (IsIn old.reached v)
  either v i = go (either_then (has set v) (has old.reached v) (sym (has_new v) ∙ i))
    where
      go : (has set v ≡ true) ⊎ ((has set v ≡ false) × (has old.reached v ≡ true)) → (IsIn set v) ⊎ (IsIn old.reached v)
      go (inl e) = inl e
      go (inr (d, e)) = inr e

  from_old : (v : Valuation) → IsIn old.reached v → IsIn new.reached v
  from_old v i = has_new v ∙ ap (λ b. has set v || b) i ∙ or_true (has set v)
    where
      or_true : (b : Bool) → (b || true) ≡ true
      or_true true = refl
      or_true false = refl

  from_set : (v : Valuation) → IsIn set v → IsIn new.reached v
  from_set v i = has_new v ∙ ap (λ b. b || has old.reached v) i

  new_kept : IsKeptClaim s f new
  new_kept = record {
    control = subst (λ (r : Frozen). IsControlSet s r) (sym is_reached) took.control;
    initial = λ v i. from_old v (kept.initial v i);
    ticked = λ v i. kept_ticked v (either v i);
    states = λ v i. kept_states v (either v i);
    uppers = above.size ∙ kept.uppers;
    lowers = under.size ∙ kept.lowers;
    upper_among = risen_among s base f.thresholds (pos 1) old.upper new.upper above kept.upper_among;
    lower_among = risen_among s base f.opposites (negsuc 0) old.lower new.lower under kept.lower_among;
  }

  module _ (m : IsBelowClosed s f.thresholds base) (d : BoxClaim) (claim : IsBoxClaim s f.thresholds d) (closed : IsClosed s d) where
    tighter : IsTighter s base d
    tighter = m d claim closed

    below_reached : (v : Valuation) → (IsIn set v) ⊎ (IsIn old.reached v) → IsTrue (d.reached v)
    below_reached v (inl i) =
        let (w, t, same) = in_set v i in
        sym (claim.reached (s.next w) v same) ∙ closed.next w (taken_within s base d tighter w t)
    below_reached v (inr i) = let h = tighter in h.reached v i

    below_upper : (k : ℕ) (b : ℤ) → k < s.memories → d.upper k ≡ Some b → (a : ℤ) × (limit_at new.upper k ≡ Some a) × (a ≤ℤ b)
    below_upper k b known at =
        let h = tighter in
        let (a, was, low) = h.upper k b known at in
        let size = kept.uppers in
        let r = above.each k (omega (arith, size, known)) in
        r.least a b was low (inr (claim.upper k b known at))
        (λ v t point bx. plus_up (value (s.update v k) point) b
        (closed.upper v (taken_within s base d tighter v t) k b known at point (box_within s base d tighter v point bx)))

    below_lower : (k : ℕ) (b : ℤ) → k < s.memories → d.lower k ≡ Some b → (a : ℤ) × (turned (limit_at new.lower k) ≡ Some a) × (b ≤ℤ a)
    below_lower k b known at =
        let h = tighter in
        let (a, was, low) = h.lower k b known at in
        let size = kept.lowers in
        let r = under.each k (omega (arith, size, known)) in
        turn (r.least (pos 0 -ℤ a) (pos 0 -ℤ b) (turned_back (limit_at old.lower k) a was) (flip a b low)
        (inr (opposite_in f.thresholds f.opposites frame.turned b (claim.lower k b known at)))
        (λ v t point bx. minus_up (value (s.update v k) point) b
        (closed.lower v (taken_within s base d tighter v t) k b known at point (box_within s base d tighter v point bx))))
      where
        turn : (a : ℤ) × (limit_at new.lower k ≡ Some a) × (a ≤ℤ (pos 0 -ℤ b)) → (a : ℤ) × (turned (limit_at new.lower k) ≡ Some a) × (b ≤ℤ a)
        turn (a, e, l) = (pos 0 -ℤ a, ap turned e, unflip a b l)

    below : IsTighter s (claim_of new) d
    below = record {
      reached = λ v i. below_reached v (either v i);
      lower = below_lower;
      upper = below_upper;
    }

  upper_still : x.upper.changed ≡ false → new.upper ≡ old.upper
  upper_still e = is_upper ∙ subst (λ (b : Bool). HasChanged b old.upper x.upper.limits) e steps.upper_changed

  lower_still : x.lower.changed ≡ false → new.lower ≡ old.lower
  lower_still e = is_lower ∙ subst (λ (b : Bool). HasChanged b old.lower x.lower.limits) e steps.lower_changed

  still : (fresh ≡ false) × (x.upper.changed ≡ false) × (x.lower.changed ≡ false) → new ≡ old
  still (a, b, c) = claim_same new old (is_reached ∙ ap (λ (y : Claim). y.reached) (took.still a)) (upper_still b) (lower_still c)

  rises : IsAbove old new
  rises = record {
    reached = from_old;
    upper = risen_above s base f.thresholds (pos 1) old.upper new.upper above;
    lower = risen_above s base f.opposites (negsuc 0) old.lower new.lower under;
  }

  held : (v : Valuation) → Unit {0} → IsHeld s base (claim_of new) v
  held v i = record {
    next = λ t. let next = steps.next in ⊎_elim (from_set (s.next v)) (from_old (s.next v)) (next.there v t);
    upper = λ t k z known at point bx. plus_down (value (s.update v k) point) z
        (risen_held s base f.thresholds (pos 1) old.upper new.upper above k z at v t point bx);
    lower = λ t k z known at point bx. minus_down (value (s.update v k) point) z
        (risen_held s base f.opposites (negsuc 0) old.lower new.lower under k (pos 0 -ℤ z) (turned_back (limit_at new.lower k) z at) v t point bx);
  }

  parts : (fresh || (x.upper.changed || x.lower.changed)) ≡ false → (fresh ≡ false) × (x.upper.changed ≡ false) × (x.lower.changed ≡ false)
  parts e = let (a, r) = or_parts fresh (x.upper.changed || x.lower.changed) e in let (b, c) = or_parts x.upper.changed x.lower.changed r in (a, b, c)

  -- there is less left, in all parts or in none
  upper_le : room new.upper ≤ room old.upper
  upper_le = subst (λ (os : List (Option ℤ)). room os ≤ room old.upper) (sym is_upper)
      (changed_le x.upper.changed old.upper x.upper.limits steps.upper_changed)

  lower_le : room new.lower ≤ room old.lower
  lower_le = subst (λ (os : List (Option ℤ)). room os ≤ room old.lower) (sym is_lower)
      (changed_le x.lower.changed old.lower x.lower.limits steps.lower_changed)

  upper_less : x.upper.changed ≡ true → room new.upper < room old.upper
  upper_less e = subst (λ (os : List (Option ℤ)). room os < room old.upper) (sym is_upper)
      (subst (λ (b : Bool). HasChanged b old.upper x.upper.limits) e steps.upper_changed)

  lower_less : x.lower.changed ≡ true → room new.lower < room old.lower
  lower_less e = subst (λ (os : List (Option ℤ)). room os < room old.lower) (sym is_lower)
      (subst (λ (b : Bool). HasChanged b old.lower x.lower.limits) e steps.lower_changed)

  reached_less : fresh ≡ true → (v : Valuation) → missing s.states (has new.reached) v < missing s.states (has old.reached) v
  reached_less e v = subst (λ (r : Frozen). missing s.states (has r) v < missing s.states (has old.reached) v) (sym is_reached) (took.less e v)

  reached_le : (v : Valuation) → missing s.states (has new.reached) v ≤ missing s.states (has old.reached) v
  reached_le v = go (cases_Bool fresh)
    where
      go : (fresh ≡ true) ⊎ (fresh ≡ false) → missing s.states (has new.reached) v ≤ missing s.states (has old.reached) v
      go (inl e) = let l = reached_less e v in omega (arith, l)
      go (inr e) =
          let q : missing s.states (has new.reached) v ≡ missing s.states (has old.reached) v = ap (λ (r : Frozen). missing s.states (has r) v)
          (is_reached ∙ ap (λ (y : Claim). y.reached) (took.still e)) in
          omega (arith, q)

  less : (fresh || (x.upper.changed || x.lower.changed)) ≡ true → (v : Valuation) → left_of s.states new v < left_of s.states old v
  unfolding left_of
  less e v = go (either_then fresh (x.upper.changed || x.lower.changed) e)
    where
      rest : (x.upper.changed ≡ true) ⊎ ((x.upper.changed ≡ false) × (x.lower.changed ≡ true)) → left_of s.states new v < left_of s.states old v
      rest (inl d) = let l = upper_less d in let m = lower_le in let n = reached_le v in omega (arith, l, m, n)
      rest (inr (_, d)) = let l = upper_le in let m = lower_less d in let n = reached_le v in omega (arith, l, m, n)

      go : (fresh ≡ true) ⊎ ((fresh ≡ false) × ((x.upper.changed || x.lower.changed) ≡ true)) → left_of s.states new v < left_of s.states old v
      go (inl d) = let l = upper_le in let m = lower_le in let n = reached_less d v in omega (arith, l, m, n)
      go (inr (_, d)) = rest (either_then x.upper.changed x.lower.changed d)

  grown : HasGrown s f base (λ v. Unit {0}) (fresh || (x.upper.changed || x.lower.changed)) old new
  grown = record {
    kept = new_kept;
    above = rises;
    below = λ m o. below m;
    still = λ e. still (parts e);
    held = held;
    less = less;
  }

  pub round_taken : (changed : Bool) → changed ≡ (fresh || (x.upper.changed || x.lower.changed))
      → IsRound s f old new (record { changed = changed; good = x.next.good })
  round_taken changed e = let next = steps.next in record {
    grown = subst (λ (b : Bool). HasGrown s f base (λ v. Unit {0}) b old new) (sym e) grown;
    all_good = next.all_good;
    some_bad = next.some_bad;
  }

-- where a round has changed nothing the claim is closed
pub settled_of : (s : System) (f : Frame) (old new : Claim) (r : Round) → IsKeptClaim s f old → IsRound s f old new r → r.changed ≡ false
    → IsSettled s new r.good
settled_of s f old new r kept round e =
    let g = round.grown in
    let held : (v : Valuation) → IsHeld s (claim_of old) (claim_of old) v = λ v. subst (λ (y : Claim). IsHeld s (claim_of old) (claim_of y) v) (g.still e)
    (g.held v tt) in
    subst (λ (y : Claim). IsSettled s y r.good) (sym (g.still e)) (record {
      closed = record {
        initial = kept.initial;
        next = λ v t. (held v).next t;
        lower = λ v t. (held v).lower t;
        upper = λ v t. (held v).upper t;
      };
      all_good = round.all_good;
      some_bad = round.some_bad;
    })

pub least_found : (s : System) (f : Frame) → IsFrameOf s f → (c : Claim) (good : Bool) → IsKeptClaim s f c → IsBelowClosed s f.thresholds (claim_of c)
    → IsSettled s c good → IsLeastOf s f (record { claim = c; good = good })
least_found s f frame c good kept below settled = record {
  least = record { kept = kept; least = record { claim = kept_claim s f frame c kept; closed = settled.closed; least = below } };
  all_good = settled.all_good;
  some_bad = settled.some_bad;
}

-- each round leaves less, or is the last
pub round_smaller : (s : System) (f : Frame) (n : ℕ) (was : Bool) (old new : Claim) (r : Round) → n ≡ s.states → was ≡ true → IsRound s f old new r
    → left_of n new (λ x. false) + cond r.changed 1 0 < left_of n old (λ x. false) + cond was 1 0
round_smaller s f n true old new r e on round = go r.changed refl
  where
    go : (b : Bool) → r.changed ≡ b → left_of n new (λ x. false) + cond b 1 0 < left_of n old (λ x. false) + 1
    go true is =
        let g = round.grown in
        let l : left_of s.states new (λ x. false) < left_of s.states old (λ x. false) = g.less is (λ x. false) in
        let m : left_of n new (λ x. false) < left_of n old (λ x. false) = subst (λ (k : ℕ). left_of k new (λ x. false) < left_of k old (λ x. false))
        (sym e) l in
        omega (arith, m)
    go false is =
        let g = round.grown in
        let q : left_of n new (λ x. false) ≡ left_of n old (λ x. false) = ap (λ (c : Claim). left_of n c (λ x. false)) (g.still is) in
        omega (arith, q)
round_smaller s f n false old new r e on round = cc
