-- The least words that fail.
use Rattle.std.proofs.Common.{ℕ, ◌/◌, ◌≡◌, Bool, false, not, ◌&&◌, List, [], sym, ap, ◌∙◌, ⊎_elim, arith, Option, Some, MatchOption, IsTrue, slice_get}
use Rattle.std.proofs.lemmas.Bool.{cases_Bool, false_from_ne_true}
use Rattle.rv_diagram.specs.Nodes.{Valuation, Diagrams, node_at, value_of, valuation_of, IsLeast, IsRef}
use Rattle.rv_diagram.specs.{declared.frozen.Frozen.Frozen, Several.ref_at}
use Rattle.rv_proofs.specs.Systems.{System, IsSystem, IsState, IsRead as IsReadBit, IsSameValuation, HasSameState}
use Rattle.rv_proofs.specs.{Scopes.IsIn, Scopes.IsInScope, Ranges.IsControlSet, Ranges.IsCondition, Ranges.IsInRange, Accepted.IsInitial, Accepted.IsCovered}
use Rattle.rv_proofs.specs.{Accepted.IsObserved, Accepted.LeadsInto, Verdicts.LacksInitial, Verdicts.IsUncovered, declared.certificate.Certificate.Certificate}
use Rattle.rv_proofs.specs.{declared.certificate.Location.Location, declared.certificate.Entry.Entry}
use Rattle.rv_accept.specs.Steps.{IsTrueOf, IsLeastWord, has}
use Rattle.rv_accept.specs.Held.{IsHeld, IsWithin, IsScope, follow, IsUnseen, IsElsewhere}
use Rattle.rv_symbolic.specs.declared.relation.Parts.{Parts}
use Rattle.rv_accept.proofs.{Growing.and_not, Least.Picked, Least.picked, Least.match_map, Least.same_states, Least.scope_same, Least.value_reads}
use Rattle.rv_proofs.proofs.ControlReads.{control_same, condition_same}
use Rattle.rv_base.proofs.Truths.{clash}

-- what the pick of the first set without the second says
abbrev pub PickOf : Diagrams → ℕ → Option (List Bool) → Type 0
PickOf d r o = MatchOption o ((v : Valuation) → value_of d.nodes r v ≡ false) (λ w. IsLeast d.nodes d.variables r w)

module _ (s : System) (l : Location) (e : Entry) (a d : Diagrams) (x r : ℕ) (o : Option (List Bool)) (fits : IsSystem s) (variables : d.variables ≡ s.variables)
    (control : IsControlSet s l.control) (condition : IsCondition s e.condition) (scope : IsScope s l e a x) (found : IsRef d.nodes r)
    (pick : PickOf d r o) where
  pub unseen : (y : Valuation → Bool) → ((v : Valuation) → y v ≡ s.observer v) → ((v : Valuation) → value_of d.nodes r v ≡ (value_of a.nodes x v && not (y v)))
      → MatchOption o (IsObserved s l e) (λ w. IsLeastWord (IsUnseen s l e) w)
  unseen y is means = match_map o (λ w. Picked (IsReadBit s) d.variables P w) (λ w. IsLeastWord (IsUnseen s l e) w)
      (λ none v h. ⊎_elim (λ t. t) (λ f. absurd (none v (h, f))) (cases_Bool (s.observer v)))
      (λ w p. record {
        is_so = record { word = record { size = p.size ∙ variables; copies = p.others }; scope = p.so.0; fails = p.so.1 };
        least = λ u h. p.least (valuation_of u) (h.scope, h.fails);
      })
      (picked (IsReadBit s) d P r exact free o pick)
    where
      P : Valuation → Type 0
      P v = IsInScope s l e v × (s.observer v ≡ false)

      exact : IsTrueOf d P r
      exact = record {
        found = found;
        exact = λ v. let m = and_not (value_of a.nodes x v) (y v) (value_of d.nodes r v) (means v) in (
          λ h. ((scope.exact v).0 (m.0 h).0, sym (is v) ∙ (m.0 h).1),
          λ (h, f). m.1 ((scope.exact v).1 h, is v ∙ f),
        );
      }

      free : (v w : Valuation) → IsSameValuation s v w → P v → P w
      free v w h (is', f) = (scope_same s l e v w fits control condition h is', sym (fits.observer v w h) ∙ f)

  pub elsewhere : (target : Location) (y : Valuation → Bool) → IsControlSet s target.control → ((v : Valuation) → y v ≡ has target.control (s.next v))
      → ((v : Valuation) → value_of d.nodes r v ≡ (value_of a.nodes x v && not (y v)))
      → MatchOption o (LeadsInto s l e target) (λ w. IsLeastWord (IsElsewhere s l e target) w)
  elsewhere target y set is means = match_map o (λ w. Picked (IsReadBit s) d.variables P w) (λ w. IsLeastWord (IsElsewhere s l e target) w)
      (λ none v h. ⊎_elim (λ t. t) (λ f. absurd (none v (h, λ t. clash (has target.control (s.next v)) t f))) (cases_Bool (has target.control (s.next v))))
      (λ w p. record {
        is_so = record { word = record { size = p.size ∙ variables; copies = p.others }; scope = p.so.0; elsewhere = p.so.1 };
        least = λ u h. p.least (valuation_of u) (h.scope, h.elsewhere);
      })
      (picked (IsReadBit s) d P r exact free o pick)
    where
      P : Valuation → Type 0
      P v = IsInScope s l e v × (¬ IsIn target.control (s.next v))

      exact : IsTrueOf d P r
      exact = record {
        found = found;
        exact = λ v. let m = and_not (value_of a.nodes x v) (y v) (value_of d.nodes r v) (means v) in (
          λ h. ((scope.exact v).0 (m.0 h).0, λ t. clash (y v) (is v ∙ t) (m.0 h).1),
          λ (h, n). m.1 ((scope.exact v).1 h, false_from_ne_true (y v) (λ t. n (sym (is v) ∙ t))),
        );
      }

      free : (v w : Valuation) → IsSameValuation s v w → P v → P w
      free v w h (is', n) = (
        scope_same s l e v w fits control condition h is',
        λ t. n (control_same s target.control (s.next w) (s.next v) set (λ k b. sym
            (fits.next v w h k b)) t),
      )

pub without_cover : (s : System) (l : Location) (a b d : Diagrams) (x y r : ℕ) (o : Option (List Bool)) → IsSystem s → d.variables ≡ s.variables
    → IsControlSet s l.control
    → ((j : ℕ) (e : Entry) → slice_get l.entries j ≡ Some e → IsCondition s e.condition) → IsWithin s l a x
    → IsTrueOf b (λ v. (j : ℕ) × (e : Entry) × (slice_get l.entries j ≡ Some e) × IsIn e.condition v) y → IsRef d.nodes r
    → ((v : Valuation) → value_of d.nodes r v ≡ (value_of a.nodes x v && not (value_of b.nodes y v))) → PickOf d r o
    → MatchOption o (IsCovered s l) (λ w. IsLeastWord (IsUncovered s l) w)
without_cover s l a b d x y r o fits variables control conditions within met found means pick =
    match_map o (λ w. Picked (IsReadBit s) d.variables P w) (λ w. IsLeastWord (IsUncovered s l) w)
    (λ none v allowed there. ⊎_elim (λ t. (met.exact v).0 t) (λ f. absurd (none v (
      allowed,
      there,
      λ j e at h. clash (value_of b.nodes y v) ((met.exact v).1
          (j, e, at, h)) f,
    ))) (cases_Bool (value_of b.nodes y v)))
    (λ w p. record {
      is_so = record { word = record { size = p.size ∙ variables; copies = p.others }; allowed = p.so.0; control = p.so.1; nowhere = p.so.2 };
      least = λ u h. p.least (valuation_of u) (h.allowed, h.control, h.nowhere);
    })
    (picked (IsReadBit s) d P r exact free o pick)
  where
    P : Valuation → Type 0
    P v = IsTrue (s.allowed v) × IsIn l.control v × ((j : ℕ) (e : Entry) → slice_get l.entries j ≡ Some e → IsIn e.condition v → ⊥)

    exact : IsTrueOf d P r
    exact = record {
      found = found;
      exact = λ v. let m = and_not (value_of a.nodes x v) (value_of b.nodes y v) (value_of d.nodes r v) (means v) in (
        λ h. let i = (within.exact v).0 (m.0 h).0 in (i.0, i.1, λ j e at t. clash (value_of b.nodes y v) ((met.exact v).1 (j, e, at, t)) (m.0 h).1),
        λ (allowed, there, none). m.1 (
          (within.exact v).1 (allowed, there),
          false_from_ne_true (value_of b.nodes y v) (λ t. let (j, e, at, h) =
              (met.exact v).0 t in none j e at h),
        ),
      );
    }

    free : (v w : Valuation) → IsSameValuation s v w → P v → P w
    free v w h (allowed, there, none) = (
      sym (fits.allowed v w h) ∙ allowed,
      control_same s l.control v w control (same_states s v w fits h) there,
      λ j e at t. none j e at (condition_same s e.condition w v (conditions j e at) (λ k b. sym (h k b)) t),
    )

pub without_start : (s : System) (c : Certificate) (p : Parts) (a b d : Diagrams) (y r : ℕ) (o : Option (List Bool)) → IsHeld s a p → IsInRange s c
    → d.variables ≡ s.variables
    → IsTrueOf b (λ v. (k : ℕ) × (l : Location) × (slice_get c.locations k ≡ Some l) × (l.entry ≡ []) × IsIn l.control v) y → IsRef d.nodes r
    → ((v : Valuation) → value_of d.nodes r v ≡ (value_of b.nodes p.initial v && not (value_of b.nodes y v))) → ((v : Valuation)
    → value_of b.nodes p.initial v ≡ value_of a.nodes p.initial v) → PickOf d r o
    → MatchOption o (IsInitial s c) (λ w. IsLeastWord (LacksInitial s c) w)
without_start s c p a b d y r o read range variables entered found means kept pick =
    match_map o (λ w. Picked (IsState s) d.variables P w) (λ w. IsLeastWord (LacksInitial s c) w)
    (λ none v starts. ⊎_elim (λ t. (entered.exact v).0 t) (λ f. absurd (none v (
      starts,
      λ k l at em h. clash (value_of b.nodes y v) ((entered.exact v).1
          (k, l, at, em, h)) f,
    ))) (cases_Bool (value_of b.nodes y v)))
    (λ w q. record {
      is_so = record { word = record { size = q.size ∙ variables; others = q.others }; initial = q.so.0; nowhere = q.so.1 };
      least = λ u h. q.least (valuation_of u) (h.initial, h.nowhere);
    })
    (picked (IsState s) d P r exact free o pick)
  where
    P : Valuation → Type 0
    P v = IsTrue (s.initial v) × ((k : ℕ) (l : Location) → slice_get c.locations k ≡ Some l → l.entry ≡ [] → IsIn l.control v → ⊥)

    starts : (v : Valuation) → value_of b.nodes p.initial v ≡ s.initial v
    starts v = kept v ∙ read.means.initial v

    exact : IsTrueOf d P r
    exact = record {
      found = found;
      exact = λ v. let m = and_not (value_of b.nodes p.initial v) (value_of b.nodes y v) (value_of d.nodes r v) (means v) in (
        λ h. (sym (starts v) ∙ (m.0 h).0, λ k l at em t. clash (value_of b.nodes y v) ((entered.exact v).1 (k, l, at, em, t)) (m.0 h).1),
        λ (i, none). m.1 (starts v ∙ i, false_from_ne_true (value_of b.nodes y v) (λ t. let (k, l, at, em, h) = (entered.exact v).0 t in none k l at em h)),
      );
    }

    free : (v w : Valuation) → HasSameState s v w → P v → P w
    free v w h (i, none) = (
      sym (read.system.initial v w h) ∙ i,
      λ k l at em t. none k l at em (control_same s l.control w v (range.locations k l at).control (λ x b. sym (h x b)) t),
    )

-- what the references make of the next control state is it, at the state bits
pub follow_next : (s : System) (p : Parts) (a : Diagrams) (set : Frozen) → IsHeld s a p → IsControlSet s set → (v : Valuation)
    → has set (follow a p.next v) ≡ has set (s.next v)
follow_next s p a set read is v = value_reads set (follow a p.next v) (s.next v) (λ n low. at (node_at set.nodes n).var (is.states n low))
  where
    at : (x : ℕ) → IsState s x → follow a p.next v x ≡ s.next v x
    at x (i, low, e) = let half : x / 2 ≡ i = omega arith in ap (λ k. value_of a.nodes (ref_at p.next k) v) half ∙ read.means.next i low v
        ∙ ap (s.next v) (sym e)
