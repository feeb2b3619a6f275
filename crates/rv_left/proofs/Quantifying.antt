-- Quantifying all variables but the state bits.
use Rattle.std.proofs.Common.{◌≡◌, ◌↔◌, ℕ, ◌+◌, ◌*◌, ◌<◌, Bool, true, false, not, ◌&&◌, cond, refl, sym, ap, ◌∙◌, subst, ⊎_elim, arith, List}
use Rattle.std.proofs.lemmas.Bool.{cases_Bool, and_parts, and_from, not-true}
use Rattle.rv_base.proofs.Truths.{without_is}
use Rattle.rv_diagram.specs.Nodes.{Valuation, Diagrams, Answers, value_of, valuation_of, choice, IsOrderedOver}
use Rattle.rv_diagram.specs.Several.{Gives, Somewhere, UsesNeeded}
use Rattle.rv_diagram.specs.declared.frozen.Frozen.{Frozen}
use Rattle.rv_diagram.proofs.Several.{same_truth}
use Rattle.rv_proofs.specs.Systems.{System, HasSameState, IsSameValuation, IsState}
use Rattle.rv_symbolic.specs.{Represented.IsRelationOf, Variables.is_of, Variables.AreAllBut, declared.relation.Relation.Relation}
use Rattle.rv_symbolic.proofs.Reading.{is_of-bit, state_is, control_set}
use Rattle.rv_walk.specs.Ends.{has}
use Rattle.rv_left.specs.Failures.{IsFailing, IsFailingSet}

not_false : (b : Bool) → not b ≡ false → b ≡ true
not_false true e = refl
not_false false e = sym e

module _ (s : System) (d e g : Diagrams) (r : Relation) (is : IsRelationOf s d r) (never bad states : ℕ) (others : List Bool)
    (nothing : (v : Valuation) → value_of d.nodes never v ≡ false)
    (p : Answers d e (choice d.nodes r.parts.observer never r.parts.allowed) bad)
    (q : Gives e g (Somewhere e.nodes bad (valuation_of others)) states)
    (all : AreAllBut s.variables s.states 0 (valuation_of others)) where
  bad_is : (v : Valuation) → value_of e.nodes bad v ≡ (s.allowed v && not (s.observer v))
  bad_is v = p.means v
      ∙ without_is (value_of d.nodes r.parts.allowed v) (value_of d.nodes r.parts.observer v) (value_of d.nodes never v) (nothing v)
      ∙ ap (λ b. b && not (value_of d.nodes r.parts.observer v)) (is.parts.allowed v)
      ∙ ap (λ b. s.allowed v && not b) (is.parts.observer v)

  kept_bit : (x : ℕ) → IsState s x → valuation_of others x ≡ false
  kept_bit x (i, low, at) =
      let bit : is_of s.states 0 x ≡ true =
      subst (λ (y : ℕ). is_of s.states 0 y ≡ true) (let z : 2 * i + 0 ≡ x = omega (arith, at) in z) (is_of-bit s.states 0 i (omega arith) low) in
      let small : x < s.variables = omega (arith, at, low, is.system.bits) in
      all.within x small ∙ ap not bit

  taken : Valuation → Valuation → Valuation
  taken v w x = cond (valuation_of others x) (w x) (v x)

  taken_same : (v w : Valuation) → HasSameState s w v → IsSameValuation s (taken v w) w
  unfolding taken
  taken_same v w same x read = ⊎_elim
      (λ on. ap (λ b. cond b (w x) (v x)) on)
      (λ off. ap (λ b. cond b (w x) (v x)) off
      ∙ sym (same x (state_is s x (not_false (is_of s.states 0 x) (sym (all.within x read.0) ∙ off)))))
      (cases_Bool (valuation_of others x))

  somewhere : (v : Valuation) → (value_of g.nodes states v ≡ true) ↔ IsFailing s v
  unfolding taken
  somewhere v = (
    λ h. let found : Somewhere e.nodes bad (valuation_of others) v = (q.means v).0 h in
        let both : (s.allowed found.0 ≡ true) × (not (s.observer found.0) ≡ true) =
        and_parts (s.allowed found.0) (not (s.observer found.0)) (sym (bad_is found.0) ∙ found.2) in
        (found.0, both.0, not-true (s.observer found.0) both.1, λ x state. sym (found.1 x (kept_bit x state))),
    λ (w, allowed, fails, same). (q.means v).1 (
      taken v w,
      λ x off. sym (ap (λ b. cond b (w x) (v x)) off),
      bad_is (taken v w) ∙ and_from (s.allowed (taken v w)) (not (s.observer (taken v w)))
          (is.system.allowed (taken v w) w (taken_same v w same) ∙ allowed)
          (ap not (is.system.observer (taken v w) w (taken_same v w same) ∙ fails)),
    ),
  )

  states_same : (v w : Valuation) → HasSameState s v w → value_of g.nodes states v ≡ value_of g.nodes states w
  states_same v w same = same_truth (value_of g.nodes states v) (value_of g.nodes states w)
      (λ h. (somewhere w).1 (move v w same ((somewhere v).0 h)))
      (λ h. (somewhere v).1 (move w v (λ x state. sym (same x state)) ((somewhere w).0 h)))
    where
      move : (v w : Valuation) → HasSameState s v w → IsFailing s v → IsFailing s w
      move v w same (u, allowed, fails, state) = (u, allowed, fails, λ x is_state. state x is_state ∙ same x is_state)

  pub failing_made : (f : Frozen) → g.variables ≡ s.variables → IsOrderedOver g.variables f → ((v : Valuation) → has f v ≡ value_of g.nodes states v)
      → UsesNeeded f.nodes (value_of g.nodes states) → IsFailingSet s f
  failing_made f variables ordered means needed = record {
    control = control_set s f (value_of g.nodes states) (subst (λ (m : ℕ). IsOrderedOver m f) variables ordered) needed states_same;
    exact = λ v. (λ h. (somewhere v).0 (sym (means v) ∙ h), λ h. means v ∙ (somewhere v).1 h);
  }
