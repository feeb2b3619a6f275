-- One turn of a replay, and its loop.
use Rattle.std.proofs.Common.{◌≡◌, ℕ, zero, suc, ◌+◌, ◌<◌, ◌≤◌, Bool, true, false, cond, List, [], ◌∷◌, drop, length, get_or, refl, sym, ◌∙◌, ap, subst, arith}
use Rattle.std.proofs.Common.{Option, Some, slice_get, None as Nothing}
use Rattle.std.proofs.{lemmas.List.drop_more, lemmas.Option.get_or_from_slice_get, lemmas.Option.slice_get_within}
use Rattle.std.specs.Prelude.{Result, Ok, Err}
use Rattle.rv_base.specs.{declared.value.Place.Place, declared.value.Trace.Trace, declared.value.Value.Value, declared.value.Value.TheVariants.Flag}
use Rattle.rv_flat.specs.Steps.{IsFlatStart, IsLeastOf}
use Rattle.rv_flat.specs.{declared.flat.Flat.Flat, declared.state.State.State, FlatInstants.is_on, FlatInstants.nth, FlatOf.IsFlatBroken}
use Rattle.rv_step.specs.{declared.stepped.Stepped.Stepped, Stepping.IsStepped}
use Rattle.rv_replay.specs.declared.playing.Turn.TheVariants as turn
use Rattle.rv_replay.specs.declared.replayed.Replayed.TheVariants.{Falsified, AssertionFails, NeverFalse}
use Rattle.rv_replay.specs.declared.replayed.ReplayFault.TheVariants.{Outgrown, Memory}
use Rattle.rv_replay.specs.Playing.{AnswersUnlessMemory, IsEnd, IsEndFault, IsPassed, IsPlayed, IsPlayedOf, IsTurn, ends, fails, falsified, goes_on, never}
use Rattle.rv_replay.specs.{declared.replayed.Replayed.Replayed, declared.replayed.ReplayFault.ReplayFault, Observers.HasTruth}

-- what the observer has, by whether it is on
its_truth : (o : Option Value) (b : Bool) → ((x : Bool) × (o ≡ Some (Flag x))) → is_on o ≡ b → o ≡ Some (Flag b)
its_truth o b there is = there.1 ∙ ap (λ x. Some (Flag x)) (sym (ap is_on there.1) ∙ is)

module _ (f : Flat) (now : State) (inputs : List Value) (k : ℕ) (s : Stepped) (is : IsStepped f now inputs s) (truth : HasTruth f s.values) where
  pub turn_fails : (p : Place) → s.broken ≡ Some p → IsTurn f k now inputs (turn.Ends (AssertionFails k p))
  turn_fails p e = fails s.values p is.instant is.within (subst (IsLeastOf (IsFlatBroken f now inputs s.values)) e is.broken)

  pub turn_falsified : s.broken ≡ Nothing → s.observer ≡ false → IsTurn f k now inputs (turn.Ends (Falsified k))
  turn_falsified e off =
      falsified s.values is.instant is.within (subst (IsLeastOf (IsFlatBroken f now inputs s.values)) e is.broken)
      (its_truth (nth s.values f.observer) false truth (sym is.observer ∙ off))

  pub turn_goes_on : s.broken ≡ Nothing → s.observer ≡ true → IsTurn f k now inputs (turn.GoesOn s.next)
  turn_goes_on e on = (
    record {
      row = s.values;
      instant = is.instant;
      within = is.within;
      allowed = subst (IsLeastOf (IsFlatBroken f now inputs s.values)) e is.broken;
      observed = its_truth (nth s.values f.observer) true truth (sym is.observer ∙ on);
      next = is.next;
    },
    is.state,
  )

  pub turn_seen : s.broken ≡ Nothing → IsTurn f k now inputs (cond s.observer (turn.GoesOn s.next) (turn.Ends (Falsified k)))
  turn_seen e = by s.observer refl
    where
      by : (b : Bool) → s.observer ≡ b → IsTurn f k now inputs (cond b (turn.GoesOn s.next) (turn.Ends (Falsified k)))
      by true on = turn_goes_on e on
      by false off = turn_falsified e off

-- what stands at a number of a list that has it
pub stands_at : (xs : List (List Value)) (k : ℕ) (x : List Value) → slice_get xs k ≡ Some x → (k < length xs) × (get_or xs k [] ≡ x)
stands_at xs k x e = (slice_get_within xs k x e, get_or_from_slice_get xs k x [] e)

-- One turn more of the replay of a trace, from the state at the start.
module _ (f : Flat) (t : Trace) (first : State) (start : IsFlatStart f t.starts first) (k : ℕ) (now : State)
    (played : (a : Result Replayed ReplayFault) → IsPlayed f k now (drop k t.instants) a → IsPlayed f 0 first t.instants a) where
  module _ (x : List Value) (at : slice_get t.instants k ≡ Some x) where
    abbrev rest : List (List Value)
    rest = drop (k + 1) t.instants

    here : drop k t.instants ≡ x ∷ rest
    here = let is = stands_at t.instants k x at in drop_more t.instants k [] is.0 ∙ ap (λ y. y ∷ rest) is.1

    pub ended : (a : Result Replayed ReplayFault) → IsEnd f k now x a → IsPlayedOf f t a
    ended a e = record { first = first; start = start; played = played a (subst (λ xs. IsPlayed f k now xs a) (sym here) (ends k now x rest a e)) }

    pub going_on : (next : State) → IsPassed f now x next → (a : Result Replayed ReplayFault) → IsPlayed f (k + 1) next rest a → IsPlayed f 0 first t.instants a
    going_on next passed a more = played a (subst (λ xs. IsPlayed f k now xs a) (sym here) (goes_on k now next x rest a passed more))

    pub faulted : (e : ReplayFault) → IsEndFault f k now x e → AnswersUnlessMemory (IsPlayedOf f t) (Err e)
    faulted (Outgrown j p) h = ended (Err (Outgrown j p)) h
    faulted Memory h = tt

  pub all_played : length t.instants ≤ k → IsPlayedOf f t (Ok NeverFalse)
  all_played le = record {
    first = first;
    start = start;
    played = played (Ok NeverFalse)
        (subst (λ xs. IsPlayed f k now xs (Ok NeverFalse)) (sym (nothing_left t.instants k le)) (never k now));
  }
    where
      nothing_left : (xs : List (List Value)) (k : ℕ) → length xs ≤ k → drop k xs ≡ []
      nothing_left [] zero le = refl
      nothing_left [] (suc k) le = refl
      nothing_left (x ∷ xs) zero le = absurd (omega (arith, le))
      nothing_left (x ∷ xs) (suc k) le = nothing_left xs k (omega (arith, le))
