-- Rows and forms that stay throughout a scope.
use Rattle.std.proofs.Common.{ℕ, zero, suc, ◌+◌, ◌<◌, ◌≡◌, ◌↔◌, ◌⊎◌, ℤ, Bool, true, false, List, length, refl, sym, ap, ◌∙◌, subst, ⊎_elim, inl, inr, arith}
use Rattle.std.proofs.Common.{Some, IsTrue}
use Rattle.std.proofs.{lemmas.Bool.cases_lt, lemmas.Bool.cases_Bool, lemmas.Option.none-some, lemmas.Option.slice_get-get_or}
use Rattle.std.specs.{Cmp.Rules.signed_items, Cmp.signed_Decides, Cmp.Lexicographic.pointwise, Ordering.int_eq}
use Rattle.rv_rows.specs.{declared.linear.Row.Row, declared.linear.Form.Form, Rows.row_at}
use Rattle.rv_diagram.specs.{declared.Triple.Triple, Nodes.Valuation, Nodes.Diagrams, Nodes.IsRef, Nodes.value_of}
use Rattle.rv_diagram.specs.Growing.{Extends}
use Rattle.rv_proofs.specs.{Systems.System, Implied.form_at}
use Rattle.rv_cases.specs.{Conditions.is_in, Conditions.AreAnswers, Questions.AreTestAnswers, Questions.AreUpdateAnswers}
use Rattle.rv_accept.specs.Steps.{IsTrueOf}
use Rattle.rv_base.proofs.Truths.{clash}

pub row_same : (a b : Row) → a.coefficients ≡ b.coefficients → a.bound ≡ b.bound → a ≡ b
row_same a b p q = ap (λ (l : List ℤ). record { coefficients = l; bound = a.bound }) p ∙ ap (λ (z : ℤ). record { coefficients = b.coefficients; bound = z }) q

pub form_same : (a b : Form) → a.coefficients ≡ b.coefficients → a.constant ≡ b.constant → a ≡ b
form_same a b p q = ap (λ (l : List ℤ). record { coefficients = l; constant = a.constant }) p ∙ ap (λ (z : ℤ). record {
  coefficients = b.coefficients;
  constant = z;
}) q

decided : (b : Bool) (P : Type 0) → (b ≡ true → P) × (P → b ≡ true) → P ⊎ (¬ P)
decided true P d = inl (d.0 refl)
decided false P d = inr (λ p. clash false (d.1 p) refl)

pub row_or : (a b : Row) → (a ≡ b) ⊎ (¬ (a ≡ b))
row_or a b = ⊎_elim (λ p. ⊎_elim (λ q. inl (row_same a b p q)) (λ n. inr (λ e. n (ap (λ (r : Row). r.bound) e))) (decided (int_eq a.bound b.bound)
    (a.bound ≡ b.bound) (signed_Decides a.bound b.bound)))
    (λ n. inr (λ e. n (ap (λ (r : Row). r.coefficients) e))) (decided (pointwise int_eq a.coefficients b.coefficients) (a.coefficients ≡ b.coefficients)
    (signed_items a.coefficients b.coefficients))

pub form_or : (a b : Form) → (a ≡ b) ⊎ (¬ (a ≡ b))
form_or a b = ⊎_elim (λ p. ⊎_elim (λ q. inl (form_same a b p q)) (λ n. inr (λ e. n (ap (λ (r : Form). r.constant) e))) (decided
    (int_eq a.constant b.constant) (a.constant ≡ b.constant) (signed_Decides a.constant b.constant)))
    (λ n. inr (λ e. n (ap (λ (r : Form). r.coefficients) e))) (decided (pointwise int_eq a.coefficients b.coefficients) (a.coefficients ≡ b.coefficients)
    (signed_items a.coefficients b.coefficients))

-- answer k has a condition and a key; the meaning of a valuation is a wrapped key
module _ {K Y : Type 0} (cond : ℕ → ℕ) (key : ℕ → K) (wrap : K → Y) where
  pub narrow_none : (a : Diagrams) (scope : ℕ) (of : K) → IsRef a.nodes scope
      → IsTrueOf a (λ v. (value_of a.nodes scope v ≡ true) × ((k : ℕ) → k < 0 → key k ≡ of → value_of a.nodes (cond k) v ≡ false)) scope
  narrow_none a scope of found = record { found = found; exact = λ v. (λ h. (h, λ k low same. absurd (omega (arith, low))), λ h. h.0) }

  pub narrow_more : (a b d : Diagrams) (scope rest r i x : ℕ) (of q : K) (asked : Bool) → Extends a b → cond i ≡ x → key i ≡ q → IsRef a.nodes x
      → (IsTrue asked ↔ (q ≡ of))
      → IsTrueOf b (λ v. (value_of a.nodes scope v ≡ true) × ((k : ℕ) → k < i → key k ≡ of → value_of a.nodes (cond k) v ≡ false)) rest
      → IsTrueOf d (λ v. (value_of b.nodes rest v ≡ true) × (IsTrue asked → value_of b.nodes x v ≡ false)) r
      → IsTrueOf d (λ v. (value_of a.nodes scope v ≡ true) × ((k : ℕ) → k < i + 1 → key k ≡ of → value_of a.nodes (cond k) v ≡ false)) r
  narrow_more a b d scope rest r i x of q asked ab is_x is_q there tells first second = record {
    found = second.found;
    exact = λ v. (
      λ h. let p = (second.exact v).0 h in
          let y = (first.exact v).0 p.0 in (
            y.0,
            λ k low same. ⊎_elim (λ less. y.1 k less same)
                (λ ge. let e : k ≡ i = omega (arith, low) in
                ap (λ n. value_of a.nodes (cond n) v) e ∙ ap (λ n. value_of a.nodes n v) is_x ∙ sym (ab.kept x there v)
                ∙ p.1 (tells.1 (sym is_q ∙ ap key (sym e) ∙ same)))
                (cases_lt k i),
          ),
      λ (s, none). (second.exact v).1 (
        (first.exact v).1 (s, λ k low. none k (omega (arith, low))),
        λ yes'. ab.kept x there v ∙ ap (λ n. value_of a.nodes n v) (sym is_x) ∙ none i (omega arith) (is_q ∙ tells.0 yes'),
      ),
    );
  }

  -- some answer of the first n with the key is met, or each with the key is not
  find : (a : Diagrams) (of : K) (v : Valuation) → ((x y : K) → (x ≡ y) ⊎ (¬ (x ≡ y))) → (n : ℕ)
      → ((k : ℕ) × (k < n) × (key k ≡ of) × (value_of a.nodes (cond k) v ≡ true)) ⊎ ((k : ℕ) → k < n → key k ≡ of → value_of a.nodes (cond k) v ≡ false)
  find a of v or zero = inr (λ k low. absurd (omega (arith, low)))
  find a of v or (suc n) = ⊎_elim (λ (k, low, same, t). inl (k, omega (arith, low), same, t)) (λ none. here none (or (key n) of)) (find a of v or n)
    where
      last : ((k : ℕ) → k < n → key k ≡ of → value_of a.nodes (cond k) v ≡ false) → (key n ≡ of → value_of a.nodes (cond n) v ≡ false)
          → (k : ℕ) → k < suc n → key k ≡ of → value_of a.nodes (cond k) v ≡ false
      last none top k low same = ⊎_elim (λ less. none k less same)
          (λ ge. let e : k ≡ n = omega (arith, low) in ap (λ m. value_of a.nodes (cond m) v) e ∙ top (ap key (sym e) ∙ same)) (cases_lt k n)

      met : ((k : ℕ) → k < n → key k ≡ of → value_of a.nodes (cond k) v ≡ false) → key n ≡ of
          → (value_of a.nodes (cond n) v ≡ true) ⊎ (value_of a.nodes (cond n) v ≡ false)
          → ((k : ℕ) × (k < suc n) × (key k ≡ of) × (value_of a.nodes (cond k) v ≡ true)) ⊎ ((k : ℕ) → k < suc n → key k ≡ of
          → value_of a.nodes (cond k) v ≡ false)
      met none same t = ⊎_elim (λ on. inl (n, omega arith, same, on)) (λ off. inr (last none (λ s. off))) t

      here : ((k : ℕ) → k < n → key k ≡ of → value_of a.nodes (cond k) v ≡ false) → (key n ≡ of) ⊎ (¬ (key n ≡ of))
          → ((k : ℕ) × (k < suc n) × (key k ≡ of) × (value_of a.nodes (cond k) v ≡ true)) ⊎ ((k : ℕ) → k < suc n → key k ≡ of
          → value_of a.nodes (cond k) v ≡ false)
      here none d = ⊎_elim (λ same. met none same (cases_Bool (value_of a.nodes (cond n) v))) (λ other. inr (last none (λ s. absurd (other s)))) d

  module _ (a d : Diagrams) (n : ℕ) (meaning : Valuation → Y) (scope rest i : ℕ)
      (right : (k : ℕ) → k < n → (v : Valuation) → value_of a.nodes (cond k) v ≡ true → meaning v ≡ wrap (key k))
      (left : IsTrueOf d (λ v. (value_of a.nodes scope v ≡ true) × ((k : ℕ) → k < n → key k ≡ key i → value_of a.nodes (cond k) v ≡ false)) rest) where
    pub settled_here : ((x y : K) → (x ≡ y) ⊎ (¬ (x ≡ y))) → ((v : Valuation) → value_of d.nodes rest v ≡ false) → (v : Valuation)
        → value_of a.nodes scope v ≡ true → meaning v ≡ wrap (key i)
    settled_here or none v h = ⊎_elim (λ (k, low, same, t). right k low v t ∙ ap wrap same)
        (λ no'. absurd (clash (value_of d.nodes rest v) ((left.exact v).1 (h, no')) (none v))) (find a (key i) v or n)

    pub unsettled : (point : Valuation) → value_of a.nodes scope point ≡ true → i < n → value_of a.nodes (cond i) point ≡ true
        → ((v : Valuation) (y : K) → meaning v ≡ wrap y → (k : ℕ) × (k < n) × (value_of a.nodes (cond k) v ≡ true)) → ((x y : K) → wrap x ≡ wrap y → x ≡ y)
        → (((v : Valuation) → value_of d.nodes rest v ≡ false) → ⊥) → (y : K) → ((v : Valuation) → value_of a.nodes scope v ≡ true → meaning v ≡ wrap y) → ⊥
    unsettled point inside less on all inj some y stays = some (λ v. ⊎_elim (λ t. absurd (no' v ((left.exact v).0 t))) (λ f. f) (cases_Bool
        (value_of d.nodes rest v)))
      where
        no' : (v : Valuation) → (value_of a.nodes scope v ≡ true) × ((k : ℕ) → k < n → key k ≡ key i → value_of a.nodes (cond k) v ≡ false) → ⊥
        no' v (h, none) = let (k, low, t) = all v y (stays v h) in
            let same : key k ≡ key i = inj (key k) (key i) (sym (right k low v t) ∙ stays v h ∙ sym (stays point inside) ∙ right i less point on) in
            clash (value_of a.nodes (cond k) v) t (none k low same)

-- ANSWERS

module _ (s : System) (nodes : List Triple) (t : ℕ) (answers : List ℕ) (rows : List Row) (are : AreTestAnswers s nodes t answers rows) where
  pub test_right : (k : ℕ) → k < length rows → (v : Valuation) → is_in nodes answers (k + 1) v ≡ true → s.row v t ≡ Some (row_at rows k)
  test_right k low v on = are.present k (row_at rows k) v (slice_get-get_or rows k _ low) on

  pub test_all : AreAnswers nodes answers → length answers ≡ length rows + 1 → (v : Valuation) (r : Row) → s.row v t ≡ Some r
      → (k : ℕ) × (k < length rows) × (is_in nodes answers (k + 1) v ≡ true)
  test_all a size v r h = let (b, low, on) = a.covered v in go b low on
    where
      go : (b : ℕ) → b < length answers → is_in nodes answers b v ≡ true → (k : ℕ) × (k < length rows) × (is_in nodes answers (k + 1) v ≡ true)
      go zero low on = absurd (none-some r (sym (are.absent v on) ∙ h))
      go (suc k) low on = let e : suc k ≡ k + 1 = omega arith in (k, omega (arith, low), subst (λ (n : ℕ). is_in nodes answers n v ≡ true) e on)

module _ (s : System) (nodes : List Triple) (k : ℕ) (answers : List ℕ) (forms : List Form) (are : AreUpdateAnswers s nodes k answers forms) where
  pub form_right : (b : ℕ) → b < length forms → (v : Valuation) → is_in nodes answers b v ≡ true → s.update v k ≡ form_at forms b
  form_right b low v on = are.becomes b (form_at forms b) v (slice_get-get_or forms b _ low) on

  pub form_all : AreAnswers nodes answers → length answers ≡ length forms → (v : Valuation) (f : Form) → s.update v k ≡ f
      → (b : ℕ) × (b < length forms) × (is_in nodes answers b v ≡ true)
  form_all a size v f h = let (b, low, on) = a.covered v in (b, omega (arith, low), on)
