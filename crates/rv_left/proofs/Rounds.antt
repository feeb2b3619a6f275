-- Rounds from the initial control states on.
use Rattle.std.proofs.Common.{◌≡◌, ◌⊎◌, inl, inr, true, false, not, ◌&&◌, ◌<◌, refl, sym, ap, ◌∙◌, ⊎_elim}
use Rattle.std.proofs.lemmas.Bool.{cases_Bool, or_cases, or_left, or_right, both_ways}
use Rattle.rv_diagram.specs.{Nodes.Valuation, declared.frozen.Frozen.Frozen}
use Rattle.rv_proofs.specs.{Systems.System, Ranges.IsControlSet, Cases.IsInitialSet}
use Rattle.rv_symbolic.specs.{declared.relation.NextStates.NextStates, Stepped.AreNextStates}
use Rattle.rv_symbolic.proofs.Reading.{control-value}
use Rattle.rv_walk.specs.{declared.sets.Extended.Extended, Ends.has, Extended.fresh_of, Extended.either_of, Extended.IsExtended, Walks.missing}
use Rattle.rv_walk.proofs.{Counting.missing_less, Stages.no_rest, Stages.rest_from}
use Rattle.rv_left.specs.Fronts.{IsFront, IsClosedSet}

pub front_begun : (s : System) (fresh all : Frozen) → IsInitialSet s fresh → IsInitialSet s all → IsFront s fresh all
front_begun s fresh all p q = record {
  fresh_control = p.control;
  all_control = q.control;
  initial = λ v h. (q.exact v).1 h;
  inside = λ v allowed h. inl ((p.exact v).1 ((q.exact v).0 h));
}

module _ (s : System) (fresh all : Frozen) (f : IsFront s fresh all) (n : NextStates) (st : AreNextStates s fresh n) where
  -- what the new ones lead to
  led : (v : Valuation) → s.allowed v ≡ true → has fresh v ≡ true → has n.set (s.next v) ≡ true
  led v allowed h = (st.exact (s.next v)).1 (v, allowed, h, λ x is. refl)

  pub front_closed : ((v : Valuation) → fresh_of all n.set v ≡ false) → IsClosedSet s all
  front_closed none = record {
    control = f.all_control;
    closed = record {
      state = λ v w same. control-value s all v w f.all_control same;
      initial = f.initial;
      next = λ v allowed h. ⊎_elim
          (λ new. no_rest (has n.set (s.next v)) (has all (s.next v)) (none (s.next v)) (led v allowed new))
          (λ old. old)
          (f.inside v allowed h);
    };
  }

  module _ (e : Extended) (x : IsExtended s.variables all n.set e) (control : IsControlSet s e.fresh × IsControlSet s e.all) where
    grown : (v : Valuation) → has all v ≡ true → has e.all v ≡ true
    grown v h = x.all_is v ∙ or_right (has n.set v) (has all v) h

    pub front_more : IsFront s e.fresh e.all
    front_more = record {
      fresh_control = control.0;
      all_control = control.1;
      initial = λ v h. grown v (f.initial v h);
      inside = λ v allowed h. go v allowed (sym (x.all_is v) ∙ h) (cases_Bool (has all v));
    }
      where
        go : (v : Valuation) → s.allowed v ≡ true → either_of all n.set v ≡ true → (has all v ≡ true) ⊎ (has all v ≡ false)
            → (has e.fresh v ≡ true) ⊎ (has e.all (s.next v) ≡ true)
        go v allowed h (inl old) = ⊎_elim
            (λ new. inr (x.all_is (s.next v) ∙ or_left (has n.set (s.next v)) (has all (s.next v)) (led v allowed new)))
            (λ there. inr (grown (s.next v) there))
            (f.inside v allowed old)
        go v allowed h (inr off) = ⊎_elim
            (λ new. inl (x.fresh_is v ∙ rest_from (has n.set v) (has all v) new off))
            (λ old. absurd (both_ways (has all v) off old))
            (or_cases (has n.set v) (has all v) h)

    pub front_less : (v : Valuation) → missing s.states (has e.all) v < missing s.states (has all) v
    front_less v = missing_less s (has all) (has e.all) v
        (λ u w same. control-value s all u w f.all_control same)
        (λ u w same. control-value s e.all u w control.1 same)
        grown
        (λ back. x.some (λ u. x.fresh_is u ∙ none u back (cases_Bool (has n.set u)) (cases_Bool (has all u))))
      where
        none : (u : Valuation) → ((w : Valuation) → has e.all w ≡ true → has all w ≡ true) → (has n.set u ≡ true) ⊎ (has n.set u ≡ false)
            → (has all u ≡ true) ⊎ (has all u ≡ false) → fresh_of all n.set u ≡ false
        none u back (inr off) r = ap (λ b. b && not (has all u)) off
        none u back (inl on) (inl old) = ap (λ b. b && not (has all u)) on ∙ ap not old
        none u back (inl on) (inr off) =
            absurd (both_ways (has all u) off (back u (x.all_is u ∙ or_left (has n.set u) (has all u) on)))
