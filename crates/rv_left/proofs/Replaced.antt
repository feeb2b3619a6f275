-- What the variables become where a set is true.
use Rattle.std.proofs.Common.{◌≡◌, ℕ, ◌+◌, ◌*◌, ◌<◌, Bool, true, false, ◌&&◌, List, [], ◌∷◌, ◌++◌, length, refl, sym, ap, ◌∙◌, subst, ⊎_elim, arith}
use Rattle.std.proofs.lemmas.Bool.{cases_lt}
use Rattle.std.proofs.lemmas.List.{length-append, get_or_append_left, get_or_push, get_or_past}
use Rattle.rv_diagram.specs.Nodes.{Valuation, Diagrams, Answers, IsRef, IsOrderedOver, value_of}
use Rattle.rv_diagram.specs.{Several.ref_at, Several.replaced, Several.UsesNeeded, Growing.Extends, declared.frozen.Frozen.Frozen}
use Rattle.rv_diagram.proofs.Growing.{extends_refl, extends_trans, grows_extends}
use Rattle.rv_symbolic.specs.Linked.{AreRefs}
use Rattle.rv_symbolic.proofs.Extending.{needed_same}
use Rattle.rv_walk.specs.Ends.{has}
use Rattle.rv_left.specs.Becoming.{IsBecome, AreBecoming, IsConditionOf}

and_true : (a b : Bool) → a ≡ true → (a && b) ≡ b
and_true true b e = refl
and_true false b e = cc

-- a variable that is no state bit becomes false
pub become_nothing : (d : Diagrams) (next : List ℕ) (within x r : ℕ) → IsRef d.nodes r → ((i : ℕ) → x ≡ 2 * i → i < length next → ⊥)
    → IsBecome d d next within x r
become_nothing d next within x r found other = record { found = found; bit = λ i e low v on. absurd (other i e low) }

pub become_bit : (d e : Diagrams) (next : List ℕ) (within x i r : ℕ) → x ≡ 2 * i
    → Answers d e (λ v. value_of d.nodes within v && value_of d.nodes (ref_at next i) v) r → IsBecome d e next within x r
become_bit d e next within x i r at p = record {
  found = p.found;
  bit = λ j same low v on.
      let one : i ≡ j = omega (arith, at, same) in
      p.means v ∙ and_true (value_of d.nodes within v) (value_of d.nodes (ref_at next i) v) on
      ∙ ap (λ (n : ℕ). value_of d.nodes (ref_at next n) v) one;
}

pub becoming_none : (d : Diagrams) (next by : List ℕ) (within : ℕ) → by ≡ [] → AreBecoming d d next within 0 by
becoming_none d next by within e = record {
  extends = extends_refl d;
  size = ap (λ (l : List ℕ). length l) e;
  found = λ y. subst (λ (l : List ℕ). IsRef d.nodes (ref_at l y)) (sym e) (omega arith);
  bits = λ i low. absurd (omega (arith, low));
}

module _ (a b c : Diagrams) (next by : List ℕ) (within x r : ℕ) (refs : AreRefs a.nodes next) (is_ref : IsRef a.nodes within)
    (h : AreBecoming a b next within x by) (grown : Extends b c) (g : IsBecome b c next within x r) where
  size : length (by ++ r ∷ []) ≡ x + 1
  size = omega (arith, length-append by (r ∷ []), h.size)

  kept_ref : (y : ℕ) → IsRef c.nodes (ref_at by y)
  kept_ref y = let found : IsRef b.nodes (ref_at by y) = h.found y in omega (arith, found, grown.longer)

  pub becoming_more : AreBecoming a c next within (x + 1) (by ++ r ∷ [])
  becoming_more = record {
    extends = extends_trans a b c h.extends grown;
    size = size;
    found = λ y. ⊎_elim
        (λ less. subst (IsRef c.nodes) (sym (get_or_append_left by (r ∷ []) 0 y less)) (kept_ref y))
        (λ ge. ⊎_elim
        (λ lt. subst (IsRef c.nodes) (sym (get_or_push by r 0 y (let e : length by ≡ y = omega (arith, lt, ge) in e))) g.found)
        (λ past. subst (IsRef c.nodes) (sym (get_or_past (by ++ r ∷ []) y 0 (omega (arith, past, length-append by (r ∷ []))))) (omega arith))
        (cases_lt y (length by + 1)))
        (cases_lt y (length by));
    bits = λ i low there v on. ⊎_elim
        (λ less. ap (λ (n : ℕ). value_of c.nodes n v) (get_or_append_left by (r ∷ []) 0 (2 * i) (omega (arith, less, h.size)))
        ∙ grown.kept (ref_at by (2 * i)) (h.found (2 * i)) v
        ∙ h.bits i less there v on)
        (λ ge. let e : x ≡ 2 * i = omega (arith, low, ge) in
        ap (λ (n : ℕ). value_of c.nodes n v) (get_or_push by r 0 (2 * i) (omega (arith, h.size, e)))
        ∙ g.bit i e there v (h.extends.kept within is_ref v ∙ on)
        ∙ h.extends.kept (ref_at next i) (refs i there) v)
        (cases_lt (2 * i) x);
  }

module _ (d e g : Diagrams) (within target led both : ℕ) (by : List ℕ) (f : Frozen) (found : IsRef d.nodes within)
    (p : Answers d e (replaced d.nodes target by) led)
    (q : Answers e g (λ v. value_of e.nodes within v && value_of e.nodes led v) both)
    (ordered : IsOrderedOver g.variables f) (means : (v : Valuation) → has f v ≡ value_of g.nodes both v)
    (needed : UsesNeeded f.nodes (value_of g.nodes both)) where
  both_is : (v : Valuation) → value_of g.nodes both v ≡ (value_of d.nodes within v && replaced d.nodes target by v)
  both_is v = q.means v ∙ ap (λ b. b && value_of e.nodes led v) (p.grows.kept within found v)
      ∙ ap (λ b. value_of d.nodes within v && b) (p.means v)

  pub condition_extends : Extends d g
  condition_extends = extends_trans d e g (grows_extends d e p.grows) (grows_extends e g q.grows)

  pub condition_made : IsConditionOf d within target by f
  condition_made = record {
    ordered = subst (λ (m : ℕ). IsOrderedOver m f) condition_extends.variables ordered;
    means = λ v. means v ∙ both_is v;
    needed = needed_same f.nodes (value_of g.nodes both) (λ v. value_of d.nodes within v && replaced d.nodes target by v) both_is needed;
  }
