-- One more test is told, one more memory becomes its form.
use Rattle.std.proofs.Common.{ℕ, ◌+◌, ◌<◌, ◌≡◌, Bool, true, List, [], ◌∷◌, ◌++◌, length, sym, ap, ◌∙◌, subst, ⊎_elim, inl, inr, arith, suc, Some, length-append}
use Rattle.std.proofs.Common.{◌==◌, None as Nothing}
use Rattle.std.proofs.lemmas.Bool.{cases_eq, eq-eqb, ne_eqb}
use Rattle.std.proofs.lemmas.List.Elements.{Contains-append_left, Contains-push}
use Rattle.std.specs.List.{Contains}
use Rattle.rv_rows.specs.{declared.linear.Row.Row, declared.linear.Form.Form}
use Rattle.rv_diagram.specs.{declared.Triple.Triple, Nodes.Valuation, Nodes.value_of}
use Rattle.rv_proofs.specs.Systems.{System, updates_among}
use Rattle.rv_cases.specs.Telling.{AreTold, AreUpdated, IsObserved, IsNoted}
use Rattle.rv_cases.specs.{Conditions.is_in, Questions.AreTestAnswers, Questions.AreSides}
use Rattle.rv_base.proofs.Lists.{none_at, push_got}

pub told_none : (s : System) (inside : Valuation → Bool) (tests : List ℕ) (rows : List Row) → tests ≡ [] → rows ≡ [] → AreTold s inside 0 tests rows
told_none s inside tests rows e f = record {
  known = λ i t g. absurd (none_at tests i t e g);
  rising = λ i j t u less g k. absurd (none_at tests i t e g);
  counts = ap (λ (l : List Row). length l) f ∙ sym (ap (λ (l : List ℕ). length l) e);
  present = λ i t r v g k on. absurd (none_at tests i t e g);
  absent = λ t low. absurd (omega arith);
}

told_absent : (s : System) (inside : Valuation → Bool) (n : ℕ) (tests : List ℕ) (rows : List Row)
    → ((v : Valuation) → inside v ≡ true → s.row v n ≡ Nothing) → AreTold s inside n tests rows → AreTold s inside (n + 1) tests rows
told_absent s inside n tests rows off h = record {
  known = λ i t g. let low : t < n = h.known i t g in omega arith;
  rising = h.rising;
  counts = h.counts;
  present = h.present;
  absent = λ t low. ⊎_elim (λ e. inr (λ v on. ap (s.row v) e ∙ off v on)) (λ other. h.absent t (omega arith)) (cases_eq t n);
}

told_present : (s : System) (inside : Valuation → Bool) (n : ℕ) (tests : List ℕ) (rows : List Row) (r : Row)
    → ((v : Valuation) → inside v ≡ true → s.row v n ≡ Some r) → AreTold s inside n tests rows → AreTold s inside (n + 1) (tests ++ n ∷ []) (rows ++ r ∷ [])
told_present s inside n tests rows r here h = record {
  known = λ i t g. ⊎_elim
      (λ o. let low : t < n = h.known i t o.1 in omega arith)
      (λ e. omega (arith, e.1))
      (push_got tests n t i g);
  rising = λ i j t u less g k. ⊎_elim
      (λ b. ⊎_elim (λ a. h.rising i j t u less a.1 b.1) (λ a. absurd (omega (arith, a.0, b.0))) (push_got tests n t i g))
      (λ b. ⊎_elim
      (λ a. let low : t < n = h.known i t a.1 in omega (arith, b.1))
      (λ a. absurd (omega (arith, a.0, b.0)))
      (push_got tests n t i g))
      (push_got tests n u j k);
  counts = omega (arith, length-append tests (n ∷ []), length-append rows (r ∷ []), h.counts);
  present = λ i t q v g k on. ⊎_elim
      (λ a. ⊎_elim (λ b. h.present i t q v a.1 b.1 on) (λ b. absurd (omega (arith, a.0, b.0, h.counts))) (push_got rows r q i k))
      (λ a. ⊎_elim
      (λ b. absurd (omega (arith, a.0, b.0, h.counts)))
      (λ b. ap (s.row v) (sym a.1) ∙ here v on ∙ ap (λ (x : Row). Some x) b.1)
      (push_got rows r q i k))
      (push_got tests n t i g);
  absent = λ t low. ⊎_elim
      (λ e. inl (subst (Contains (tests ++ n ∷ [])) (sym e) (Contains-push tests n)))
      (λ other. ⊎_elim (λ c. inl (Contains-append_left tests (n ∷ []) t c)) (λ a. inr a) (h.absent t (omega arith)))
      (cases_eq t n);
}

pub told_more : (s : System) (nodes : List Triple) (condition n place : ℕ) (answers : List ℕ) (known : List Row) (tests tests2 : List ℕ) (rows rows2 : List Row)
    → AreTestAnswers s nodes n answers known
    → ((v : Valuation) → value_of nodes condition v ≡ true → is_in nodes answers place v ≡ true)
    → IsNoted n place known tests rows tests2 rows2
    → AreTold s (value_of nodes condition) n tests rows → AreTold s (value_of nodes condition) (n + 1) tests2 rows2
told_more s nodes condition n place answers known tests tests2 rows rows2 a here (inl (first, same, same_rows)) h =
    subst (λ (l : List ℕ). AreTold s (value_of nodes condition) (n + 1) l rows2) (sym same)
    (subst (λ (l : List Row). AreTold s (value_of nodes condition) (n + 1) tests l) (sym same_rows)
    (told_absent s (value_of nodes condition) n tests rows (λ v on. a.absent v (ap (λ b. is_in nodes answers b v) (sym first) ∙ here v on)) h))
told_more s nodes condition n place answers known tests tests2 rows rows2 a here (inr (i, r, is, got, same, same_rows)) h =
    subst (λ (l : List ℕ). AreTold s (value_of nodes condition) (n + 1) l rows2) (sym same)
    (subst (λ (l : List Row). AreTold s (value_of nodes condition) (n + 1) (tests ++ n ∷ []) l) (sym same_rows)
    (told_present s (value_of nodes condition) n tests rows r
    (λ v on. a.present i r v got (ap (λ b. is_in nodes answers b v) (sym is) ∙ here v on)) h))

pub updated_none : (s : System) (inside : Valuation → Bool) (updates : List Form) → updates ≡ [] → AreUpdated s inside 0 updates
updated_none s inside updates e v on = sym e

pub updated_more : (s : System) (inside : Valuation → Bool) (n : ℕ) (updates updates2 : List Form) (form : Form)
    → ((v : Valuation) → inside v ≡ true → s.update v n ≡ form) → updates2 ≡ updates ++ form ∷ []
    → AreUpdated s inside n updates → AreUpdated s inside (n + 1) updates2
updated_more s inside n updates updates2 form here e h v on =
    let next : n + 1 ≡ suc n = omega arith in
    ap (updates_among s v) next ∙ ap (λ l. l ++ s.update v n ∷ []) (h v on) ∙ ap (λ (f : Form). updates ++ f ∷ []) (here v on) ∙ sym e

-- one of two answers tells the observer
pub observed_told : (s : System) (nodes : List Triple) (condition place : ℕ) (answers : List ℕ) → AreSides s nodes answers → place < 2
    → ((v : Valuation) → value_of nodes condition v ≡ true → is_in nodes answers place v ≡ true) → IsObserved s (value_of nodes condition) (place == 0)
observed_told s nodes condition place answers a low here v on = ⊎_elim
    (λ z. a.good v (ap (λ b. is_in nodes answers b v) (sym z) ∙ here v on) ∙ sym (eq-eqb place 0 z))
    (λ some. let e : place ≡ 1 = omega arith in a.bad v (ap (λ b. is_in nodes answers b v) (sym e) ∙ here v on) ∙ sym (ne_eqb place 0 some))
    (cases_eq place 0)
