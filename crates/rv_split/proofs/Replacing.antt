-- Parts of which one is replaced by two.
use Rattle.std.proofs.Common.{ℕ, ◌+◌, ◌<◌, ◌≤◌, ◌≡◌, ◌⊎◌, ◌↔◌, inl, inr, Bool, true, false, List, [], ◌∷◌, length, refl, sym, ap, ◌∙◌}
use Rattle.std.proofs.Common.{subst, ⊎_elim, arith, set}
use Rattle.std.proofs.lemmas.Bool.{cases_eq, cases_lt, cases_Bool, both_ways}
use Rattle.std.proofs.lemmas.List.{length-set, length-append, get_or_append_left, get_or_push, get_or-set_same, get_or-set_other}
use Rattle.rv_diagram.specs.{Nodes.Valuation, declared.frozen.Frozen.Frozen}
use Rattle.rv_proofs.specs.Scopes.{IsIn}
use Rattle.rv_split.specs.Partitions.{IsStateSet, AreParts, IsInSome, HasSameValues, part_at}
use Rattle.rv_split.specs.Splits.{IsReplaced, IsEven}
use Rattle.rv_split.specs.{Steps.IsRefined, Steps.AreKeptBy}

module _ (old new : List Frozen) (at : ℕ) (test : Valuation → Bool) (r : IsReplaced old new at test) where
  size_set : length (set old at r.yes) ≡ length old
  size_set = length-set old at r.yes

  pub longer : length new ≡ length old + 1
  longer = ap length r.parts ∙ length-append (set old at r.yes) (r.no ∷ []) ∙ ap (λ n. n + 1) size_set

  first : (k : ℕ) → k < length old → part_at new k ≡ part_at (set old at r.yes) k
  first k lt = ap (λ (l : List Frozen). part_at l k) r.parts
      ∙ get_or_append_left (set old at r.yes) (r.no ∷ []) (record { nodes = []; root = 0 }) k (omega (arith, size_set))

  at_yes : part_at new at ≡ r.yes
  at_yes = first at r.there ∙ get_or-set_same old at r.yes (record { nodes = []; root = 0 }) r.there

  at_other : (k : ℕ) → k < length old → (k ≡ at → ⊥) → part_at new k ≡ part_at old k
  at_other k lt ne = first k lt ∙ get_or-set_other old at k r.yes (record { nodes = []; root = 0 }) ne

  at_no : part_at new (length old) ≡ r.no
  at_no = ap (λ (l : List Frozen). part_at l (length old)) r.parts
      ∙ get_or_push (set old at r.yes) r.no (record { nodes = []; root = 0 }) (length old) size_set

  -- the three kinds of new parts
  kinds : (k : ℕ) → k < length new → (k ≡ at) ⊎ ((k ≡ length old) ⊎ ((k < length old) × (k ≡ at → ⊥)))
  kinds k lt = ⊎_elim
      (λ e. inl e)
      (λ ne. ⊎_elim (λ less. inr (inr (less, ne))) (λ ge. inr (inl (omega (arith, longer)))) (cases_lt k (length old)))
      (cases_eq k at)

  pub each_new : (P : Frozen → Type 0) → P r.yes → P r.no → ((k : ℕ) → k < length old → P (part_at old k)) → (k : ℕ) → k < length new → P (part_at new k)
  each_new P hit miss all k lt = go (kinds k lt)
    where
      go : (k ≡ at) ⊎ ((k ≡ length old) ⊎ ((k < length old) × (k ≡ at → ⊥))) → P (part_at new k)
      go (inl e) = subst (λ (n : ℕ). P (part_at new n)) (sym e) (subst P (sym at_yes) hit)
      go (inr (inl e)) = subst (λ (n : ℕ). P (part_at new n)) (sym e) (subst P (sym at_no) miss)
      go (inr (inr (less, ne))) = subst P (sym (at_other k less ne)) (all k less)

  -- where a state of a new part comes from
  abbrev Origin : ℕ → Valuation → Type 0
  Origin k v = ((k < length old) × (k ≡ at → ⊥) × IsIn (part_at old k) v)
      ⊎ (((k ≡ at) × IsIn (part_at old at) v × (test v ≡ true)) ⊎ ((k ≡ length old) × IsIn (part_at old at) v × (test v ≡ false)))

  origin : (k : ℕ) (v : Valuation) → k < length new → IsIn (part_at new k) v → Origin k v
  origin k v lt inside = go (kinds k lt)
    where
      go : (k ≡ at) ⊎ ((k ≡ length old) ⊎ ((k < length old) × (k ≡ at → ⊥))) → Origin k v
      go (inl e) =
          let here : IsIn r.yes v = subst (λ (f : Frozen). IsIn f v) (ap (part_at new) e ∙ at_yes) inside in
          let parts : IsIn (part_at old at) v × (test v ≡ true) = (r.cut.yes_exact v).0 here in
          inr (inl (e, parts.0, parts.1))
      go (inr (inl e)) =
          let here : IsIn r.no v = subst (λ (f : Frozen). IsIn f v) (ap (part_at new) e ∙ at_no) inside in
          let parts : IsIn (part_at old at) v × (test v ≡ false) = (r.cut.no_exact v).0 here in
          inr (inr (e, parts.0, parts.1))
      go (inr (inr (less, ne))) = inl (less, ne, subst (λ (f : Frozen). IsIn f v) (at_other k less ne) inside)

  -- parts that are apart by a relation that the test respects stay apart
  pub apart_new : (R : Valuation → Valuation → Type 0) → ((v w : Valuation) → R v w → test v ≡ test w)
      → ((k n : ℕ) (v w : Valuation) → k < length old → n < length old → IsIn (part_at old k) v → IsIn (part_at old n) w → R v w → k ≡ n)
      → (k n : ℕ) (v w : Valuation) → k < length new → n < length new → IsIn (part_at new k) v → IsIn (part_at new n) w → R v w → k ≡ n
  apart_new R respects apart k n v w lt less inside within rel = go (origin k v lt inside) (origin n w less within)
    where
      go : Origin k v → Origin n w → k ≡ n
      go (inl (lk, nk, ik)) (inl (ln, nn, iw)) = apart k n v w lk ln ik iw rel
      go (inl (lk, nk, ik)) (inr (inl (e, iw, t))) = absurd (nk (apart k at v w lk r.there ik iw rel))
      go (inl (lk, nk, ik)) (inr (inr (e, iw, t))) = absurd (nk (apart k at v w lk r.there ik iw rel))
      go (inr (inl (e, ik, s))) (inl (ln, nn, iw)) = absurd (nn (sym (apart at n v w r.there ln ik iw rel)))
      go (inr (inl (e, ik, s))) (inr (inl (f, iw, t))) = e ∙ sym f
      go (inr (inl (e, ik, s))) (inr (inr (f, iw, t))) = absurd (both_ways (test v) (respects v w rel ∙ t) s)
      go (inr (inr (e, ik, s))) (inl (ln, nn, iw)) = absurd (nn (sym (apart at n v w r.there ln ik iw rel)))
      go (inr (inr (e, ik, s))) (inr (inl (f, iw, t))) = absurd (both_ways (test v) s (respects v w rel ∙ t))
      go (inr (inr (e, ik, s))) (inr (inr (f, iw, t))) = e ∙ sym f

  pub refined_new : IsRefined old new
  refined_new = each_new (λ f. (n : ℕ) × (n < length old) × ((v : Valuation) → IsIn f v → IsIn (part_at old n) v))
      (at, r.there, λ v inside. ((r.cut.yes_exact v).0 inside).0)
      (at, r.there, λ v inside. ((r.cut.no_exact v).0 inside).0)
      (λ k lt. (k, lt, λ v inside. inside))

  pub union_new : (v : Valuation) → IsInSome new v ↔ IsInSome old v
  union_new v = (
    λ (k, lt, inside). let from : (n : ℕ) × (n < length old) × ((v : Valuation) → IsIn (part_at new k) v → IsIn (part_at old n) v) = refined_new k lt in
        (from.0, from.1, from.2 v inside),
    λ (k, lt, inside). ⊎_elim
        (λ e. ⊎_elim
        (λ on. (
          at,
          omega (arith, r.there, longer),
          subst (λ (f : Frozen). IsIn f v) (sym at_yes)
              ((r.cut.yes_exact v).1 (subst (λ (n : ℕ). IsIn (part_at old n) v) e inside, on)),
        ))
        (λ off. (
          length old,
          omega (arith, longer),
          subst (λ (f : Frozen). IsIn f v) (sym at_no)
              ((r.cut.no_exact v).1 (subst (λ (n : ℕ). IsIn (part_at old n) v) e inside, off)),
        ))
        (cases_Bool (test v)))
        (λ ne. (k, omega (arith, lt, longer), subst (λ (f : Frozen). IsIn f v) (sym (at_other k lt ne)) inside))
        (cases_eq k at),
  )

  pub parts_new : (variables : ℕ) (state : List ℕ) → AreParts variables state old → IsStateSet variables state r.yes → IsStateSet variables state r.no
      → AreParts variables state new
  parts_new variables state are hit miss = record {
    sets = each_new (IsStateSet variables state) hit miss are.sets;
    some = each_new (λ f. (v : Valuation) × IsIn f v) r.cut.some_yes r.cut.some_no are.some;
    disjoint = λ k n v lt less inside within. apart_new (λ x y. x ≡ y) (λ x y e. ap test e)
        (λ i j x y li lj ix iy e. are.disjoint i j x li lj ix (subst (λ (z : Valuation). IsIn (part_at old j) z) (sym e) iy))
        k n v v lt less inside within refl;
  }

  -- what the parts with other numbers were they are, and in the two new ones the test has one value
  pub even_new : (k : ℕ) → k < length new → (k ≡ at) ⊎ (length old ≤ k) → IsEven (part_at new k) test
  even_new k lt here v w iv iw = go (origin k v lt iv) (origin k w lt iw)
    where
      off : (k < length old) → (k ≡ at → ⊥) → ⊥
      off less ne = ⊎_elim (λ e. ne e) (λ ge. omega (arith, less, ge)) here

      go : Origin k v → Origin k w → test v ≡ test w
      go (inl (lk, nk, ik)) o = absurd (off lk nk)
      go (inr o) (inl (lk, nk, ik)) = absurd (off lk nk)
      go (inr (inl (e, ik, s))) (inr (inl (f, jk, t))) = s ∙ sym t
      go (inr (inl (e, ik, s))) (inr (inr (f, jk, t))) = absurd (omega (arith, e, f, r.there))
      go (inr (inr (e, ik, s))) (inr (inl (f, jk, t))) = absurd (omega (arith, e, f, r.there))
      go (inr (inr (e, ik, s))) (inr (inr (f, jk, t))) = s ∙ sym t

  pub same_new : (k : ℕ) → k < length old → (k ≡ at → ⊥) → part_at new k ≡ part_at old k
  same_new = at_other

-- by a variable
pub kept_new : (old new : List Frozen) (at x : ℕ) → IsReplaced old new at (λ v. v x) → AreKeptBy x old new
kept_new old new at x r = record {
  union = union_new old new at (λ v. v x) r;
  refined = refined_new old new at (λ v. v x) r;
  grown = omega (arith, longer old new at (λ v. v x) r);
  apart = λ bits listed apart. apart_new old new at (λ v. v x) r (HasSameValues bits) (λ v w same. same x listed) apart;
}

pub kept_refl : (x : ℕ) (parts : List Frozen) → AreKeptBy x parts parts
kept_refl x parts = record {
  union = λ v. (λ h. h, λ h. h);
  refined = λ k lt. (k, lt, λ v inside. inside);
  grown = omega arith;
  apart = λ bits listed apart. apart;
}

pub kept_trans : (x : ℕ) (a b c : List Frozen) → AreKeptBy x a b → AreKeptBy x b c → AreKeptBy x a c
kept_trans x a b c p q = record {
  union = λ v. (λ h. (p.union v).0 ((q.union v).0 h), λ h. (q.union v).1 ((p.union v).1 h));
  refined = λ k lt. let one : (n : ℕ) × (n < length b) × ((v : Valuation) → IsIn (part_at c k) v → IsIn (part_at b n) v) = q.refined k lt in
      let two : (n : ℕ) × (n < length a) × ((v : Valuation) → IsIn (part_at b one.0) v → IsIn (part_at a n) v) = p.refined one.0 one.1 in
      (two.0, two.1, λ v inside. two.2 v (one.2 v inside));
  grown = omega (arith, p.grown, q.grown);
  apart = λ bits listed apart. q.apart bits listed (p.apart bits listed apart);
}

pub kept_equal : (x : ℕ) (old new : List Frozen) → new ≡ old → AreKeptBy x old new
kept_equal x old new e = subst (λ (l : List Frozen). AreKeptBy x old l) (sym e) (kept_refl x old)
