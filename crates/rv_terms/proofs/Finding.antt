-- Where a function of finitely many variables is true, and which parts meet it.
use Rattle.std.proofs.Common.{ℕ, zero, suc, ◌<◌, ◌≤◌, ◌≡◌, ◌≢◌, ◌⊎◌, Bool, true, false, List, [], ◌∷◌, length, Option, Some, refl, sym, ap, ◌∙◌, subst, ⊎_elim}
use Rattle.std.proofs.Common.{inl, inr, arith, None as Nothing}
use Rattle.std.proofs.lemmas.Bool.{cases_eq, cases_Bool, false≢true}
use Rattle.std.specs.Prelude.{MatchOption}
use Rattle.rv_rows.specs.declared.linear.Form.{Form}
use Rattle.rv_diagram.specs.{declared.Triple.Triple, Nodes.Valuation, Nodes.put, Nodes.value_of, Nodes.IsRef, Nodes.ReadsBelow}
use Rattle.rv_diagram.proofs.{Calls.value_of-true, Canon.put-other, Canon.put-same}
use Rattle.rv_terms.specs.declared.parted.Part.{Part}
use Rattle.rv_terms.specs.Parts.{part_at, holds, Covers, IsTerm, IsTermOf, HasNoSingle, IsSingle, IsAlone, IsMet}
use Rattle.rv_terms.proofs.Combining.{form_is}
use Rattle.rv_diagram.proofs.Counting.{same_put}

-- it has one value at valuations that agree below m
abbrev pub ReadsOnly : ℕ → (Valuation → Bool) → Type 0
ReadsOnly m p = (v w : Valuation) → ((k : ℕ) → k < m → v k ≡ w k) → p v ≡ p w

put-agree : (v w : Valuation) (m : ℕ) (b : Bool) → ((k : ℕ) → k < m → v k ≡ w k) → (k : ℕ) → k < suc m → put v m b k ≡ put w m b k
put-agree v w m b same k low = ⊎_elim
    (λ e. subst (λ (j : ℕ). put v m b j ≡ put w m b j) (sym e) (put-same v m b ∙ sym (put-same w m b)))
    (λ off. put-other v m b k off ∙ same k (omega arith) ∙ sym (put-other w m b k off))
    (cases_eq k m)

pub some_or_none : (m : ℕ) (p : Valuation → Bool) → ReadsOnly m p → ((v : Valuation) × (p v ≡ true)) ⊎ ((v : Valuation) → p v ≡ false)
some_or_none zero p reads = ⊎_elim
    (λ t. inl ((λ k. false), t))
    (λ f. inr (λ v. reads v (λ k. false) (λ k low. absurd (omega arith)) ∙ f))
    (cases_Bool (p (λ k. false)))
some_or_none (suc m) p reads =
    let half : (b : Bool) → ((v : Valuation) × (p (put v m b) ≡ true)) ⊎ ((v : Valuation) → p (put v m b) ≡ false) =
    λ b. some_or_none m (λ v. p (put v m b)) (λ v w same. reads (put v m b) (put w m b) (put-agree v w m b same)) in
    ⊎_elim
    (λ s. inl (put s.0 m true, s.1))
    (λ none_true. ⊎_elim
    (λ s. inl (put s.0 m false, s.1))
    (λ none_false. inr (λ v. ⊎_elim
    (λ t. reads v (put v m true) (λ k low. same_put v m true t k) ∙ none_true v)
    (λ f. reads v (put v m false) (λ k low. same_put v m false f k) ∙ none_false v)
    (cases_Bool (v m))))
    (half false))
    (half true)

pub some_from : (nodes : List Triple) (m a : ℕ) → ReadsBelow nodes m → IsRef nodes a → (((v : Valuation) → value_of nodes a v ≡ false) → ⊥)
    → (v : Valuation) × (value_of nodes a v ≡ true)
some_from nodes m a reads found some = ⊎_elim (λ s. s) (λ none. absurd (some none)) (some_or_none m (value_of nodes a) (reads a found))

pub leaf_made : (nodes : List Triple) (form : Form) → IsTermOf nodes (length form.coefficients) (λ v. form) ((record { under = 1; form = form }) ∷ [])
leaf_made nodes form = record {
  term = record {
    refs = λ i low. subst (λ (k : ℕ). IsRef nodes (part_at ((record { under = 1; form = form }) ∷ []) k).under) (let e : 0 ≡ i = omega arith in e)
        (omega arith);
    disjoint = λ i j less low. absurd (omega arith);
    covers = λ v. (0, omega arith, value_of-true nodes v);
    different = λ i j less low. absurd (omega arith);
    widths = λ i low. subst (λ (k : ℕ). length (part_at ((record { under = 1; form = form }) ∷ []) k).form.coefficients ≡ length form.coefficients)
        (let e : 0 ≡ i = omega arith in e) refl;
  };
  width_is = refl;
  filled = λ i low none. let e : i ≡ 0 = omega arith in false≢true
      (sym (subst (λ (k : ℕ). holds nodes ((record { under = 1; form = form }) ∷ []) k (λ k. true) ≡ false) e (none (λ k. true)))
      ∙ value_of-true nodes (λ k. true));
  exact = λ v. form_is nodes ((record { under = 1; form = form }) ∷ []) 0 v (λ i j less low. absurd (omega arith)) (omega arith) (value_of-true nodes v);
}

-- what has been found among the first n parts
abbrev pub IsFound : List Triple → List Part → ℕ → ℕ → Option ℕ → Type 0
IsFound nodes parts a n found = MatchOption found
    ((k : ℕ) → k < n → (v : Valuation) → holds nodes parts k v ≡ true → value_of nodes a v ≡ true → ⊥)
    (λ i. IsAlone nodes parts a n i)

pub found_none : (nodes : List Triple) (parts : List Part) (a n : ℕ) → Covers nodes parts → length parts ≤ n → IsFound nodes parts a n Nothing
    → IsMet nodes parts a
found_none nodes parts a n covers all h = inl (λ v. ⊎_elim
    (λ t. let c : (i : ℕ) × (i < length parts) × (holds nodes parts i v ≡ true) = covers v in absurd (h c.0 (omega (arith, c.1)) v c.2 t))
    (λ f. f)
    (cases_Bool (value_of nodes a v)))

pub found_all : (nodes : List Triple) (parts : List Part) (a n : ℕ) (found : Option ℕ) → Covers nodes parts → n ≡ length parts → IsFound nodes parts a n found
    → MatchOption found (IsMet nodes parts a) (λ i. IsAlone nodes parts a (length parts) i)
found_all nodes parts a n Nothing covers all h = found_none nodes parts a n covers (omega arith) h
found_all nodes parts a n (Some i) covers all h = subst (λ (k : ℕ). IsAlone nodes parts a k i) all h

pub none_single : (nodes : List Triple) (width a : ℕ) (parts : List Part) → IsTerm nodes width parts → IsMet nodes parts a → HasNoSingle nodes parts a
none_single nodes width a parts t (inl h) = inl h
none_single nodes width a parts t (inr (i, j, less, low, (v, vi, va), (w, wj, wa))) =
    inr (
      v,
      w,
      va,
      wa,
      λ e. t.different i j less low (sym (form_is nodes parts i v t.disjoint (omega arith) vi) ∙ e
          ∙ form_is nodes parts j w t.disjoint low wj),
    )

pub is_single : (nodes : List Triple) (width a i : ℕ) (form : Form) (parts : List Part) → IsTerm nodes width parts → IsAlone nodes parts a (length parts) i
    → form ≡ (part_at parts i).form → IsSingle nodes parts a form
is_single nodes width a i form parts t h e = record {
  some = let s : (v : Valuation) × (holds nodes parts i v ≡ true) × (value_of nodes a v ≡ true) = h.some in (s.0, s.2);
  one = λ v va.
      let c : (k : ℕ) × (k < length parts) × (holds nodes parts k v ≡ true) = t.covers v in
      ⊎_elim
      (λ same. form_is nodes parts i v t.disjoint h.within (ap (λ k. holds nodes parts k v) (sym same) ∙ c.2) ∙ sym e)
      (λ off. absurd (h.others c.0 c.1 off v c.2 va))
      (cases_eq c.0 i);
}

pub answer_made : (nodes : List Triple) (width a : ℕ) (parts : List Part) (found : Option ℕ) (out : Option Form) → IsTerm nodes width parts
    → MatchOption found (IsMet nodes parts a) (λ i. IsAlone nodes parts a (length parts) i)
    → MatchOption found (out ≡ Nothing) (λ i. out ≡ Some (part_at parts i).form)
    → MatchOption out (HasNoSingle nodes parts a) (λ f. IsSingle nodes parts a f)
answer_made nodes width a parts Nothing out t h e = subst (λ (o : Option Form). MatchOption o (HasNoSingle nodes parts a) (λ f. IsSingle nodes parts a f))
    (sym e) (none_single nodes width a parts t h)
answer_made nodes width a parts (Some i) out t h e = subst (λ (o : Option Form). MatchOption o (HasNoSingle nodes parts a) (λ f. IsSingle nodes parts a f))
    (sym e) (is_single nodes width a i (part_at parts i).form parts t h refl)
