-- How many control states a set lacks.
use Rattle.std.proofs.Common.{ℕ, ◌+◌, ◌*◌, ◌/◌, ◌%◌, ◌<◌, ◌≤◌, ◌≡◌, Bool, true, false, ◌&&◌, cond, nat_lt, ◌==◌, zero, suc, refl, sym, ap, ◌∙◌, subst, ⊎_elim}
use Rattle.std.proofs.Common.{arith}
use Rattle.std.proofs.lemmas.Bool.{cases_lt, cases_eq, cases_Bool, eq-eqb, ne_eqb, lt-ltb, and_from, and_parts, ltb-true, eqb-true}
use Rattle.std.proofs.Math.Path.{fun_ext}
use Rattle.rv_diagram.specs.Nodes.{Valuation, put}
use Rattle.rv_proofs.specs.Systems.{System, HasSameState}
use Rattle.rv_walk.specs.Walks.{missing}

put-at : (v : Valuation) (x : ℕ) (b : Bool) (y : ℕ) → y ≡ x → put v x b y ≡ b
put-at v x b y e = ap (λ t. cond t b (v y)) (eq-eqb y x e)

put-off : (v : Valuation) (x : ℕ) (b : Bool) (y : ℕ) → (y ≡ x → ⊥) → put v x b y ≡ v y
put-off v x b y off = ap (λ t. cond t b (v y)) (ne_eqb y x off)

abbrev pub Within : (Valuation → Bool) → (Valuation → Bool) → Type 0
Within p q = (v : Valuation) → p v ≡ true → q v ≡ true

missing_none : (set : Valuation → Bool) (v : Valuation) → missing zero set v ≡ cond (set v) 0 1
unfolding missing
missing_none set v = refl

missing_more : (i : ℕ) (set : Valuation → Bool) (v : Valuation) → missing (suc i) set v ≡ missing i set (put v (2 * i) false) + missing i set (put v
    (2 * i) true)
unfolding missing
missing_more i set v = refl

less_or_same : (p q : Bool) → (p ≡ true → q ≡ true) → cond q 0 1 ≤ cond p 0 1
less_or_same true true h = omega arith
less_or_same true false h = let no : false ≡ true = h refl in cc
less_or_same false true h = omega arith
less_or_same false false h = omega arith

lack : Bool → ℕ
lack b = cond b 0 1

both_same : (p q : Bool) → lack q ≡ lack p → q ≡ true → p ≡ true
unfolding lack
both_same true q e h = refl
both_same false true e h = absurd (omega arith)
both_same false false e h = h

missing_lack : (p q : Valuation → Bool) (v : Valuation) → missing zero q v ≡ missing zero p v → lack (q v) ≡ lack (p v)
unfolding lack
missing_lack p q v same = sym (missing_none q v) ∙ same ∙ missing_none p v

pub missing_le : (n : ℕ) (p q : Valuation → Bool) (v : Valuation) → Within p q → missing n q v ≤ missing n p v
missing_le zero p q v h = let e : missing zero q v ≡ cond (q v) 0 1 = missing_none q v in
    let f : missing zero p v ≡ cond (p v) 0 1 = missing_none p v in
    let l : cond (q v) 0 1 ≤ cond (p v) 0 1 = less_or_same (p v) (q v) (h v) in omega arith
missing_le (suc i) p q v h =
    let e : missing (suc i) q v ≡ missing i q (put v (2 * i) false) + missing i q (put v (2 * i) true) = missing_more i q v in
    let f : missing (suc i) p v ≡ missing i p (put v (2 * i) false) + missing i p (put v (2 * i) true) = missing_more i p v in
    let l : missing i q (put v (2 * i) false) ≤ missing i p (put v (2 * i) false) = missing_le i p q (put v (2 * i) false) h in
    let m : missing i q (put v (2 * i) true) ≤ missing i p (put v (2 * i) true) = missing_le i p q (put v (2 * i) true) h in
    omega arith

-- equal but for the first n state bits
abbrev pub Agree : ℕ → Valuation → Valuation → Type 0
Agree n u v = (y : ℕ) → (y % 2 ≡ 0 → y / 2 < n → ⊥) → u y ≡ v y

agree_put : (i : ℕ) (u v : Valuation) (b : Bool) → Agree (suc i) u v → u (2 * i) ≡ b → Agree i u (put v (2 * i) b)
agree_put i u v b agree is y free = ⊎_elim
    (λ e. ap u e ∙ is ∙ sym (put-at v (2 * i) b y e))
    (λ off. agree y (λ even low. ⊎_elim (λ lt. free even lt) (λ ge. off (omega arith)) (cases_lt (y / 2) i)) ∙ sym (put-off v (2 * i) b y off))
    (cases_eq y (2 * i))

missing_same : (n : ℕ) (p q : Valuation → Bool) (v : Valuation) → Within p q → missing n q v ≡ missing n p v → (u : Valuation) → Agree n u v
    → q u ≡ true → p u ≡ true
missing_same zero p q v h same u agree holds =
    let e : u ≡ v = fun_ext (λ y. agree y (λ even low. omega arith)) in
    subst (λ (w : Valuation). p w ≡ true) (sym e) (both_same (p v) (q v) (missing_lack p q v same) (subst (λ (w : Valuation). q w ≡ true) e holds))
missing_same (suc i) p q v h same u agree holds =
    let e : missing (suc i) q v ≡ missing i q (put v (2 * i) false) + missing i q (put v (2 * i) true) = missing_more i q v in
    let f : missing (suc i) p v ≡ missing i p (put v (2 * i) false) + missing i p (put v (2 * i) true) = missing_more i p v in
    let l : missing i q (put v (2 * i) false) ≤ missing i p (put v (2 * i) false) = missing_le i p q (put v (2 * i) false) h in
    let m : missing i q (put v (2 * i) true) ≤ missing i p (put v (2 * i) true) = missing_le i p q (put v (2 * i) true) h in
    ⊎_elim
    (λ on. missing_same i p q (put v (2 * i) true) h (omega arith) u (agree_put i u v true agree on) holds)
    (λ off. missing_same i p q (put v (2 * i) false) h (omega arith) u (agree_put i u v false agree off) holds)
    (cases_Bool (u (2 * i)))

abbrev cut : ℕ → Valuation → Valuation → Valuation
cut n u v y = cond ((y % 2 == 0) && nat_lt (y / 2) n) (u y) (v y)

cut_state : (s : System) (u v : Valuation) → HasSameState s u (cut s.states u v)
cut_state s u v x (i, low, e) = ap (λ t. cond t (u x) (v x)) (sym (and_from (x % 2 == 0) (nat_lt (x / 2) s.states) (eq-eqb (x % 2) 0 (omega
    (arith, e))) (lt-ltb (x / 2) s.states (omega (arith, e, low)))))

cut_agree : (n : ℕ) (u v : Valuation) → Agree n (cut n u v) v
cut_agree n u v y free = ⊎_elim
    (λ on. let parts : ((y % 2 == 0) ≡ true) × (nat_lt (y / 2) n ≡ true) = and_parts (y % 2 == 0) (nat_lt (y / 2) n) on in absurd (free (eqb-true
    (y % 2) 0 parts.0) (ltb-true (y / 2) n parts.1)))
    (λ off. ap (λ t. cond t (u y) (v y)) off)
    (cases_Bool ((y % 2 == 0) && nat_lt (y / 2) n))

-- a greater set of control states lacks fewer
pub missing_less : (s : System) (p q : Valuation → Bool) (v : Valuation) → ((u w : Valuation) → HasSameState s u w → p u ≡ p w)
    → ((u w : Valuation) → HasSameState s u w → q u ≡ q w)
    → Within p q → (Within q p → ⊥) → missing s.states q v < missing s.states p v
missing_less s p q v states_p states_q h more = ⊎_elim
    (λ lt. lt)
    (λ ge. let le : missing s.states q v ≤ missing s.states p v = missing_le s.states p q v h in
    absurd (more (λ u holds. states_p u (cut s.states u v) (cut_state s u v) ∙ missing_same s.states p q v h (omega arith) (cut s.states u v)
    (cut_agree s.states u v) (sym (states_q u (cut s.states u v) (cut_state s u v)) ∙ holds))))
    (cases_lt (missing s.states q v) (missing s.states p v))
