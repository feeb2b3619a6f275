-- Valuations that lead out of a set.
use Rattle.std.proofs.Common.{ℕ, ◌*◌, ◌<◌, ◌≡◌, ◌⊎◌, inl, inr, Bool, true, false, not, ◌&&◌, List, length, refl, sym, ap, ◌∙◌, subst, arith}
use Rattle.std.proofs.lemmas.Bool.{and_from, and_parts, cases_Bool}
use Rattle.rv_diagram.specs.Nodes.{Valuation, Diagrams, Answers, value_of, IsRef, IsOrderedOver}
use Rattle.rv_diagram.specs.{Several.ref_at, Several.UsesNeeded, Several.replaced, Growing.Extends, declared.frozen.Frozen.Frozen}
use Rattle.rv_diagram.proofs.Growing.{extends_trans, grows_extends}
use Rattle.rv_proofs.specs.{Systems.System, Systems.HasSameState, Scopes.IsIn, Ranges.IsControlSet, Cases.IsCase, Cases.IsImage}
use Rattle.rv_proofs.specs.declared.report.Case.{Case}
use Rattle.rv_symbolic.specs.{Represented.IsRelationOf, declared.relation.Relation.Relation}
use Rattle.rv_symbolic.proofs.{Extending.needed_same, Reading.control-value, Reading.condition_set}
use Rattle.rv_leaving.specs.{Led.become, Led.IsLedBy, Exits.AreTakenFrom, Exits.IsApart, Exits.AreOutside, Exits.AreLeft}

-- what was built of a set means this
pub led_made : (s0 s1 s2 : Diagrams) (next by : List ℕ) (to : Frozen) (target moved : ℕ)
    → ((i : ℕ) → i < length next → ref_at by (2 * i) ≡ ref_at next i) → ((x : ℕ) → IsRef s0.nodes (ref_at by x))
    → Answers s0 s1 (value_of to.nodes to.root) target → Answers s1 s2 (replaced s1.nodes target by) moved → IsLedBy s0 s2 next to moved
led_made s0 s1 s2 next by to target moved bits refs p q = record {
  by = by;
  bits = bits;
  found = q.found;
  means = λ v. q.means v ∙ p.means (become s1 by v) ∙ ap (λ (w : Valuation). value_of to.nodes to.root w) (same v);
}
  where
    same : (v : Valuation) → become s1 by v ≡ become s0 by v
    same v = λ i x. (p.grows.kept (ref_at by x) (refs x) v) i

module _ (s0 s1 s2 : Diagrams) (taken inside outside both : ℕ) (f : Frozen) (found : IsRef s0.nodes taken)
    (p : Answers s0 s1 (λ v. not (value_of s0.nodes inside v)) outside)
    (q : Answers s1 s2 (λ v. value_of s1.nodes taken v && value_of s1.nodes outside v) both)
    (ordered : IsOrderedOver s2.variables f) (means : (v : Valuation) → value_of f.nodes f.root v ≡ value_of s2.nodes both v)
    (needed : UsesNeeded f.nodes (value_of s2.nodes both)) where
  both_is : (v : Valuation) → value_of s2.nodes both v ≡ (value_of s0.nodes taken v && not (value_of s0.nodes inside v))
  both_is v = q.means v ∙ ap (λ b. b && value_of s1.nodes outside v) (p.grows.kept taken found v) ∙ ap (λ b. value_of s0.nodes taken v && b) (p.means v)

  pub apart_extends : Extends s0 s2
  apart_extends = extends_trans s0 s1 s2 (grows_extends s0 s1 p.grows) (grows_extends s1 s2 q.grows)

  pub apart_made : IsApart s0 taken inside f
  apart_made = record {
    ordered = subst (λ (m : ℕ). IsOrderedOver m f) apart_extends.variables ordered;
    means = λ v. means v ∙ both_is v;
    needed = needed_same f.nodes (value_of s2.nodes both) (λ v. value_of s0.nodes taken v && not (value_of s0.nodes inside v)) both_is needed;
  }

not_true : (b : Bool) → not b ≡ true → b ≡ false
not_true true e = cc
not_true false e = refl

module _ (s : System) (d e : Diagrams) (r : Relation) (is : IsRelationOf s d r) (from : Frozen) (control : IsControlSet s from) (taken : ℕ)
    (are : AreTakenFrom s d.nodes from taken) (grown : Extends d e) (inside : ℕ) (led : IsLedBy d e r.parts.next from inside) where
  follows : (v : Valuation) → HasSameState s (become d led.by v) (s.next v)
  follows v = λ x (i, low, q).
      ap (become d led.by v) q
      ∙ ap (λ (k : ℕ). value_of d.nodes k v) (led.bits i (omega (arith, low, is.parts.states)))
      ∙ is.parts.next i low v
      ∙ ap (s.next v) (sym q)

  inside_is : (v : Valuation) → value_of e.nodes inside v ≡ value_of from.nodes from.root (s.next v)
  inside_is v = led.means v ∙ control-value s from (become d led.by v) (s.next v) control (follows v)

  taken_is : (v : Valuation) → value_of e.nodes taken v ≡ value_of d.nodes taken v
  taken_is v = grown.kept taken are.found v

  here : (v : Valuation) → (value_of e.nodes taken v && not (value_of e.nodes inside v))
      ≡ (value_of d.nodes taken v && not (value_of from.nodes from.root (s.next v)))
  here v = ap (λ b. b && not (value_of e.nodes inside v)) (taken_is v) ∙ ap (λ b. value_of d.nodes taken v && not b) (inside_is v)

  pub outside_made : (f : Frozen) → IsApart e taken inside f → AreOutside s d.nodes from taken f
  outside_made f apart = record {
    condition = condition_set s f (λ v. value_of e.nodes taken v && not (value_of e.nodes inside v))
        (subst (λ (m : ℕ). IsOrderedOver m f) (grown.variables ∙ is.parts.variables) apart.ordered) apart.needed
        (λ v w same. here v
        ∙ ap (λ b. b && not (value_of from.nodes from.root (s.next v))) (are.same v w same)
        ∙ ap (λ b. value_of d.nodes taken w && not b) (control-value s from (s.next v) (s.next w) control (is.system.next v w same))
        ∙ sym (here w));
    exact = λ v. (
      λ i. let (a, b) = and_parts (value_of d.nodes taken v) (not (value_of from.nodes from.root (s.next v))) (sym (apart.means v ∙ here v) ∙ i) in
          (a, not_true (value_of from.nodes from.root (s.next v)) b),
      λ (a, b). apart.means v ∙ here v ∙ and_from (value_of d.nodes taken v) (not (value_of from.nodes from.root (s.next v))) a (ap not b),
    );
  }

module _ (s : System) (d : Diagrams) (from : Frozen) (taken : ℕ) (are : AreTakenFrom s d.nodes from taken) (c : Case)
    (outside : AreOutside s d.nodes from taken c.condition) where
  pub away_case : IsCase s c
  away_case = record { condition = outside.condition; allowed = λ v i. are.allowed v ((outside.exact v).0 i).0 }

  pub left_made : (set : Frozen) → IsImage s from c set → AreLeft s d.nodes from taken set
  left_made set image = record {
    control = image.control;
    made = λ v i. let (w, inside, on, same) = (image.exact v).0 i in (w, ((outside.exact w).0 on).0, same);
    there = λ w t. go w t (cases_Bool (value_of from.nodes from.root (s.next w)));
  }
    where
      go : (w : Valuation) → value_of d.nodes taken w ≡ true
          → (value_of from.nodes from.root (s.next w) ≡ true) ⊎ (value_of from.nodes from.root (s.next w) ≡ false)
          → (IsIn set (s.next w)) ⊎ (IsIn from (s.next w))
      go w t (inl e) = inr e
      go w t (inr e) = inl ((image.exact (s.next w)).1 (w, are.inside w t, (outside.exact w).1 (t, e), λ x state. refl))
