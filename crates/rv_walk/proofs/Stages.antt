-- The walk through the layers ends at the least closed set of control states.
use Rattle.std.proofs.Common.{ℕ, ◌+◌, ◌-◌, ◌<◌, ◌≡◌, ◌⊎◌, Bool, true, false, not, ◌&&◌, ◌||◌, List, [], ◌∷◌, ◌++◌, length, zero, suc, refl, sym, ap, ◌∙◌, subst}
use Rattle.std.proofs.Common.{⊎_elim, inl, inr, arith, length-append, slice_get, Some}
use Rattle.std.proofs.lemmas.Bool.{cases_lt, cases_Bool, or_cases, and_from, and_parts, and_cases, not-true, both_ways, or_left, or_right}
use Rattle.std.proofs.{lemmas.List.get_or_append_left, Math.Seq.get_or-append_seam, lemmas.Option.get_or_from_slice_get}
use Rattle.rv_diagram.specs.{Nodes.Valuation, declared.frozen.Frozen.Frozen}
use Rattle.rv_proofs.specs.{Systems.System, Systems.HasSameState, Ranges.IsControlSet, Cases.IsInitialSet, Reached.IsControlClosed}
use Rattle.rv_symbolic.specs.{declared.relation.NextStates.NextStates, Stepped.AreNextStates}
use Rattle.rv_symbolic.proofs.Reading.{control-value, control_set}
use Rattle.rv_walk.specs.Walks.{IsReached, IsFirst, IsStage, IsWalk, IsDone, missing, set_at, last_of, no_set}
use Rattle.rv_walk.specs.{Ends.has, Ends.IsLeastControl, Extended.fresh_in, Extended.either_in, Extended.IsFresh}
use Rattle.rv_walk.proofs.Counting.{missing_less}

pub set-before : (sets : List Frozen) (f : Frozen) (t : ℕ) → t < length sets → set_at (sets ++ f ∷ []) t ≡ set_at sets t
set-before sets f t low = get_or_append_left sets (f ∷ []) no_set t low

set-new : (sets : List Frozen) (f : Frozen) → set_at (sets ++ f ∷ []) (length sets) ≡ f
set-new sets f = get_or-append_seam sets f [] no_set

last-new : (sets : List Frozen) (f : Frozen) → last_of (sets ++ f ∷ []) ≡ f
last-new sets f = ap (set_at (sets ++ f ∷ [])) (let e : length (sets ++ f ∷ []) - 1 ≡ length sets = omega (
  arith,
  length-append sets
      (f ∷ []),
) in e) ∙ set-new sets f

one_more : (sets : List Frozen) (f : Frozen) (t : ℕ) → t < length (sets ++ f ∷ []) → (t < length sets) ⊎ (t ≡ length sets)
one_more sets f t low = ⊎_elim (λ lt. inl lt) (λ ge. inr (omega (arith, length-append sets (f ∷ [])))) (cases_lt t (length sets))

pub state_self : (s : System) (v : Valuation) → HasSameState s v v
state_self s v x is = refl

pub no_rest : (a b : Bool) → (a && not b) ≡ false → a ≡ true → b ≡ true
no_rest true true h g = refl
no_rest true false h g = sym h ∙ refl
no_rest false b h g = absurd (cc)

pub rest_parts : (a b : Bool) → (a && not b) ≡ true → (a ≡ true) × (b ≡ false)
rest_parts a b h = let p : (a ≡ true) × (not b ≡ true) = and_parts a (not b) h in (p.0, not-true b p.1)

pub rest_from : (a b : Bool) → a ≡ true → b ≡ false → (a && not b) ≡ true
rest_from a b h g = and_from a (not b) h (ap not g)

-- the last layer is reached
last_reached : (s : System) (sets : List Frozen) (reached : Valuation → Bool) (good : Bool) → IsWalk s sets reached good → (v : Valuation)
    → has (last_of sets) v ≡ true → reached v ≡ true
last_reached s sets reached good w v h = w.all (length sets - 1) (omega (arith, w.some)) v (((w.layers (length sets - 1) (omega
    (arith, w.some))).exact v).0 h).0

pub walk_start : (s : System) (first : Frozen) (reached : Valuation → Bool) → IsInitialSet s first → ((v : Valuation) → reached v ≡ has first v)
    → IsWalk s (first ∷ []) reached true
walk_start s first reached a is =
    let same : (v : Valuation) → reached v ≡ true → has first v ≡ true = λ v h. sym (is v) ∙ h in
    record {
      some = omega arith;
      layers = λ t low. let z : 0 ≡ t = omega arith in subst (λ (n : ℕ). IsStage s n (set_at (first ∷ []) n)) z (record {
        control = a.control;
        exact = λ v. (λ h. ((a.exact v).0 h, λ u less. absurd (omega arith)), λ p. (a.exact v).1 p.0);
      });
      state = λ v w like. is v ∙ control-value s first v w a.control like ∙ sym (is w);
      held = λ v h. (0, omega arith, same v h);
      all = λ t low v r. let z : t ≡ 0 = omega arith in is v ∙ (a.exact v).1 (subst (λ (n : ℕ). IsReached s n v) z r);
      inside = λ v allowed h off. absurd (both_ways (has first v) off (same v h));
      seen_good = λ g v allowed h off. absurd (both_ways (has first v) off (same v h));
      seen_bad = λ g. absurd (cc);
    }

-- a layer more
module _ (s : System) (sets : List Frozen) (reached : Valuation → Bool) (good : Bool) (n : NextStates) (fresh : Frozen) (all : Valuation → Bool)
    (w : IsWalk s sets reached good) (st : AreNextStates s (last_of sets) n) (x : IsFresh s.variables reached n.set fresh)
    (all_is : (v : Valuation) → all v ≡ either_in reached n.set v) where
  fresh_control : IsControlSet s fresh
  fresh_control = control_set s fresh (fresh_in reached n.set) x.ordered x.needed (λ v u same.
      ap (λ b. b && not (reached v)) (control-value s n.set v u st.control same) ∙ ap (λ b. has n.set u && not b) (w.state v u same))

  all_state : (v u : Valuation) → HasSameState s v u → all v ≡ all u
  all_state v u same = all_is v ∙ ap (λ b. b || reached v) (control-value s n.set v u st.control same)
      ∙ ap (λ b. has n.set u || b) (w.state v u same) ∙ sym (all_is u)

  from_reached : (v : Valuation) → reached v ≡ true → all v ≡ true
  from_reached v h = all_is v ∙ or_right (has n.set v) (reached v) h

  from_to : (v : Valuation) → has n.set v ≡ true → all v ≡ true
  from_to v h = all_is v ∙ or_left (has n.set v) (reached v) h

  from_fresh : (v : Valuation) → has fresh v ≡ true → all v ≡ true
  from_fresh v h = from_to v (rest_parts (has n.set v) (reached v) (sym (x.exact v) ∙ h)).0

  fresh_or_old : (v : Valuation) → all v ≡ true → (reached v ≡ true) ⊎ (has fresh v ≡ true)
  fresh_or_old v h = ⊎_elim
      (λ old. inl old)
      (λ off. ⊎_elim
      (λ next. inr (x.exact v ∙ rest_from (has n.set v) (reached v) next off))
      (λ old. inl old)
      (or_cases (has n.set v) (reached v) (sym (all_is v) ∙ h)))
      (cases_Bool (reached v))

  step_after : (v : Valuation) → s.allowed v ≡ true → reached v ≡ true → all (s.next v) ≡ true
  step_after v allowed h = ⊎_elim
      (λ on. from_to (s.next v) ((st.exact (s.next v)).1 (v, allowed, on, state_self s (s.next v))))
      (λ off. from_reached (s.next v) (w.inside v allowed h off))
      (cases_Bool (has (last_of sets) v))

  all_after : (t : ℕ) → t < length sets + 1 → (v : Valuation) → IsReached s t v → all v ≡ true
  all_after t low v r = ⊎_elim
      (λ lt. from_reached v (w.all t lt v r))
      (λ ge. let f : t ≡ suc (length sets - 1) = omega (arith, w.some) in
      let q : IsReached s (suc (length sets - 1)) v = subst (λ (m : ℕ). IsReached s m v) f r in
      sym (all_state (s.next q.0) v q.3) ∙ step_after q.0 q.2 (w.all (length sets - 1) (omega (arith, w.some)) q.0 q.1))
      (cases_lt t (length sets))

  fresh_stage : IsStage s (length sets) fresh
  fresh_stage = record {
    control = fresh_control;
    exact = λ v. (
      λ h. let p : (has n.set v ≡ true) × (reached v ≡ false) = rest_parts (has n.set v) (reached v) (sym (x.exact v) ∙ h) in
          let q : (u : Valuation) × (s.allowed u ≡ true) × (has (last_of sets) u ≡ true) × HasSameState s (s.next u) v = (st.exact v).0 p.0 in
          let f : suc (length sets - 1) ≡ length sets = omega (arith, w.some) in
          let before : IsFirst s (length sets - 1) q.0 = ((w.layers (length sets - 1) (omega (arith, w.some))).exact q.0).0 q.2 in
          (subst (λ (m : ℕ). IsReached s m v) f (q.0, before.0, q.1, q.3), λ t less r. both_ways (reached v) p.1 (w.all t less v r)),
      λ (r, first). ⊎_elim
          (λ old. let b : (t : ℕ) × (t < length sets) × (has (set_at sets t) v ≡ true) = w.held v old in absurd (first b.0 b.1
          (((w.layers b.0 b.1).exact v).0 b.2).0))
          (λ new. new)
          (fresh_or_old v (all_after (length sets) (omega arith) v r)),
    );
  }

  not_fresh : (v : Valuation) → all v ≡ true → has (last_of (sets ++ fresh ∷ [])) v ≡ false → reached v ≡ true
  not_fresh v h off = ⊎_elim
      (λ old. old)
      (λ new. absurd (both_ways (has fresh v) (sym (ap (λ (f : Frozen). has f v) (last-new sets fresh)) ∙ off) new))
      (fresh_or_old v h)

  pub walk_more : IsWalk s (sets ++ fresh ∷ []) all (good && n.good)
  walk_more = record {
    some = omega (arith, length-append sets (fresh ∷ []));
    layers = λ t low. ⊎_elim
        (λ lt. subst (IsStage s t) (sym (set-before sets fresh t lt)) (w.layers t lt))
        (λ f. subst (λ (m : ℕ). IsStage s m (set_at (sets ++ fresh ∷ []) m)) (sym f) (subst (IsStage s (length sets)) (sym
        (set-new sets fresh)) fresh_stage))
        (one_more sets fresh t low);
    state = all_state;
    held = λ v h. ⊎_elim
        (λ old. let b : (t : ℕ) × (t < length sets) × (has (set_at sets t) v ≡ true) = w.held v old in
        (b.0, omega (arith, length-append sets (fresh ∷ [])), subst (λ (f : Frozen). has f v ≡ true) (sym (set-before sets fresh b.0 b.1)) b.2))
        (λ new. (length sets, omega (arith, length-append sets (fresh ∷ [])), subst (λ (f : Frozen). has f v ≡ true) (sym (set-new sets fresh)) new))
        (fresh_or_old v h);
    all = λ t low v r. all_after t (omega (arith, length-append sets (fresh ∷ []))) v r;
    inside = λ v allowed h off. step_after v allowed (not_fresh v h off);
    seen_good = λ g v allowed h off. let p : (good ≡ true) × (n.good ≡ true) = and_parts good n.good g in
        let old : reached v ≡ true = not_fresh v h off in
        ⊎_elim (λ on. st.all_good p.1 v allowed on) (λ no. w.seen_good p.0 v allowed old no) (cases_Bool (has (last_of sets) v));
    seen_bad = λ g. ⊎_elim
        (λ old. let b : (v : Valuation) × (s.allowed v ≡ true) × (reached v ≡ true) × (s.observer v ≡ false) = w.seen_bad old in
        (b.0, b.1, from_reached b.0 b.2, b.3))
        (λ new. let b : (v : Valuation) × (s.allowed v ≡ true) × (has (last_of sets) v ≡ true)
        × (s.observer v ≡ false) = st.some_bad new in (b.0, b.1, from_reached b.0 (last_reached s sets reached good w b.0 b.2), b.3))
        (and_cases good n.good g);
  }

  pub walk_less : (v : Valuation) → missing s.states all v < missing s.states reached v
  walk_less v = missing_less s reached all v w.state all_state from_reached
      (λ back. x.some (λ u. ⊎_elim
      (λ on. absurd (both_ways (reached u) (rest_parts (has n.set u) (reached u) (sym (x.exact u) ∙ on)).1 (back u (from_fresh u on))))
      (λ off. off)
      (cases_Bool (has fresh u))))

-- nothing is left
pub walk_done : (s : System) (sets : List Frozen) (reached : Valuation → Bool) (good : Bool) (n : NextStates) → IsWalk s sets reached good
    → AreNextStates s (last_of sets) n
    → ((v : Valuation) → fresh_in reached n.set v ≡ false) → IsDone s sets reached (good && n.good)
walk_done s sets reached good n w st none = record {
  some = w.some;
  layers = w.layers;
  state = w.state;
  held = w.held;
  initial = λ v h. w.all 0 w.some v h;
  closed = λ v allowed h. ⊎_elim
      (λ on. no_rest (has n.set (s.next v)) (reached (s.next v)) (none (s.next v)) ((st.exact (s.next v)).1 (v, allowed, on, state_self s (s.next v))))
      (λ off. w.inside v allowed h off)
      (cases_Bool (has (last_of sets) v));
  is_good = λ g v allowed h. let p : (good ≡ true) × (n.good ≡ true) = and_parts good n.good g in
      ⊎_elim (λ on. st.all_good p.1 v allowed on) (λ no. w.seen_good p.0 v allowed h no) (cases_Bool (has (last_of sets) v));
  is_bad = λ g. ⊎_elim
      (λ old. w.seen_bad old)
      (λ new. let b : (v : Valuation) × (s.allowed v ≡ true) × (has (last_of sets) v ≡ true)
      × (s.observer v ≡ false) = st.some_bad new in (b.0, b.1, last_reached s sets reached good w b.0 b.2, b.3))
      (and_cases good n.good g);
}

-- each control state that is reached is in each closed set
pub reached_in : (s : System) (other : Valuation → Bool) → IsControlClosed s other → (t : ℕ) (v : Valuation) → IsReached s t v → other v ≡ true
reached_in s other c zero v r = c.initial v r
reached_in s other c (suc t) v (w, r, allowed, same) = sym (c.state (s.next w) v same) ∙ c.next w allowed (reached_in s other c t w r)

pub done_closed : (s : System) (sets : List Frozen) (reached : Valuation → Bool) (good : Bool) → IsDone s sets reached good → IsControlClosed s reached
done_closed s sets reached good d = record { state = d.state; initial = d.initial; next = d.closed }

pub done_least : (s : System) (sets : List Frozen) (reached : Valuation → Bool) (good : Bool) → IsDone s sets reached good → IsLeastControl s reached
done_least s sets reached good d = record {
  closed = done_closed s sets reached good d;
  least = λ other c v h. let b : (t : ℕ) × (t < length sets) × (has (set_at sets t) v ≡ true) = d.held v h in reached_in s other c b.0 v
      (((d.layers b.0 b.1).exact v).0 b.2).0;
}

pub at_last : (sets : List Frozen) (f : Frozen) (n : ℕ) → n ≡ length sets → slice_get sets (n - 1) ≡ Some f → last_of sets ≡ f
at_last sets f n e h = get_or_from_slice_get sets (length sets - 1) f no_set (ap (λ m. slice_get sets (m - 1)) (sym e) ∙ h)
