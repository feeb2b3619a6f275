-- Questions whose answers are exact are those of their system.
use Rattle.std.proofs.Common.{◌≡◌, ◌⊎◌, inl, inr, ◌↔◌, ℕ, suc, ◌+◌, ◌-◌, ◌<◌, ◌≤◌, Bool, true, List, [], length, sym, ◌∙◌, ap, subst, arith, Option, Some}
use Rattle.std.proofs.{lemmas.Bool.cases_lt, lemmas.Option.get_or_from_slice_get, Math.ListN.get_or-eq_default}
use Rattle.std.specs.Prelude.{slice_get}
use Rattle.rv_rows.specs.{declared.linear.Row.Row, declared.linear.Form.Form, Rows.row_at}
use Rattle.rv_diagram.specs.{declared.Triple.Triple, Nodes.Valuation, Nodes.Diagrams, Several.ref_at}
use Rattle.rv_proofs.specs.Systems.{System, IsSystem, IsSameValuation}
use Rattle.rv_terms.specs.Parts.{no_form}
use Rattle.rv_cases.specs.Questions.{rows_at, forms_at, memory_answers, observer_answers, HaveAnswers, AreTestAnswers, AreUpdateAnswers, AreSides, AreQuestions}
use Rattle.rv_cases.specs.Questions.{AreDistinct}
use Rattle.rv_cases.specs.{declared.asking.Questions.Questions, Conditions.is_in, Conditions.list_at, Conditions.AreAnswers}
use Rattle.rv_tested.specs.Exact.{AreExact, row_answer, form_answer, side_answer, AreAsked}
use Rattle.rv_base.proofs.Lists.{within_got}
use Rattle.rv_diagram.proofs.Several.{same_truth}
use Rattle.rv_diagram.specs.Growing.{Extends}

module _ (A : Type 0) (nodes : List Triple) (f : Valuation → A) (n : ℕ) (value : ℕ → A) (refs : List ℕ) (is : AreExact A nodes f n value refs) where
  pub exact_answers : AreAnswers nodes refs
  exact_answers = record {
    found = is.found;
    covered = λ v. let c = is.covers v in (c.0, omega (arith, c.1, is.size), (is.exact c.0 c.1 v).1 c.2);
    apart = λ i j less low v one two.
        let first : i < n = omega (arith, less, low, is.size) in
        let second : j < n = omega (arith, low, is.size) in
        let same = is.different i j first second (sym ((is.exact i first v).0 one) ∙ (is.exact j second v).0 two) in
        absurd (omega (arith, less, same));
  }

  pub exact_says : (i : ℕ) (v : Valuation) → i < n → is_in nodes refs i v ≡ true → f v ≡ value i
  exact_says i v lt h = (is.exact i lt v).0 h

  -- where two valuations have one value they have one answer
  pub exact_same : (i : ℕ) (v w : Valuation) → i < n → f v ≡ f w → is_in nodes refs i v ≡ is_in nodes refs i w
  exact_same i v w lt same = same_truth (is_in nodes refs i v) (is_in nodes refs i w)
      (λ h. (is.exact i lt w).1 (sym same ∙ (is.exact i lt v).0 h)) (λ h. (is.exact i lt v).1 (same ∙ (is.exact i lt w).0 h))

-- the answers in a store that has grown
pub exact_later : (A : Type 0) (old new : Diagrams) (f : Valuation → A) (n : ℕ) (value : ℕ → A) (refs : List ℕ) → Extends old new
    → AreExact A old.nodes f n value refs → AreExact A new.nodes f n value refs
exact_later A old new f n value refs e is = record {
  size = is.size;
  found = λ i lt. omega (arith, is.found i lt, e.longer);
  exact = λ i lt v. subst (λ b. (b ≡ true) ↔ (f v ≡ value i)) (sym (e.kept (ref_at refs i) (is.found i (omega (arith, lt, is.size))) v)) (is.exact i lt v);
  covers = is.covers;
  different = is.different;
}

-- which of three a number is
data Kinds (tests memories i : ℕ) : Type 0 where
  a_test : i < tests → Kinds tests memories i
  a_memory : (k : ℕ) → k < memories → i ≡ tests + k → Kinds tests memories i
  the_observer : i ≡ tests + memories → Kinds tests memories i

kinds : (tests memories i : ℕ) → i < tests + memories + 1 → Kinds tests memories i
kinds tests memories i lt = elim (cases_lt i tests) [
  | inl less ↦ a_test less
  | inr ge ↦ elim (cases_lt i (tests + memories)) [
    | inl within ↦ a_memory (i - tests) (omega arith) (omega arith)
    | inr past ↦ the_observer (omega arith)
  ]
]

module _ (s : System) (d : Diagrams) (q : Questions) (asked : AreAsked s d q) where
  many_rows : length q.rows ≡ s.tests
  many_rows = asked.many_tests

  -- the answers to a memory's question, and to the observer's
  memory_place : (k i : ℕ) → i ≡ s.tests + k → list_at q.questions i ≡ memory_answers q k
  memory_place k i e = ap (λ n. list_at q.questions n) (e ∙ ap (λ n. n + k) (sym asked.many_tests))

  observer_place : (i : ℕ) → i ≡ s.tests + s.memories → list_at q.questions i ≡ observer_answers q
  observer_place i e = ap (λ n. list_at q.questions n) (e ∙ (λ j. sym asked.many_tests j + sym asked.many_memories j))

  one : (i : ℕ) → i < length q.questions → AreAnswers d.nodes (list_at q.questions i)
  one i lt = by (kinds s.tests s.memories i (omega (arith, lt, asked.many)))
    where
      by : Kinds s.tests s.memories i → AreAnswers d.nodes (list_at q.questions i)
      by (a_test low) = exact_answers (Option Row) d.nodes (λ v. s.row v i) (length (rows_at q.rows i) + 1) (row_answer (rows_at q.rows i))
          (list_at q.questions i) (asked.tests i low)
      by (a_memory k low e) = subst (AreAnswers d.nodes) (sym (memory_place k i e))
          (exact_answers Form d.nodes (λ v. s.update v k) (length (forms_at q.forms k)) (form_answer (forms_at q.forms k)) (memory_answers q k)
          (asked.memories k low))
      by (the_observer e) = subst (AreAnswers d.nodes) (sym (observer_place i e))
          (exact_answers Bool d.nodes s.observer 2 side_answer (observer_answers q) asked.observer)

  have : HaveAnswers d.nodes q
  have = record {
    many = omega (arith, asked.many, asked.many_tests, asked.many_memories);
    one = one;
    tests = λ t lt. (asked.tests t (omega (arith, lt, asked.many_tests))).size;
    memories = λ k lt. (asked.memories k (omega (arith, lt, asked.many_memories))).size;
    sides = asked.observer.size;
  }

  test_answers : (t : ℕ) → t < s.tests → AreTestAnswers s d.nodes t (list_at q.questions t) (rows_at q.rows t)
  test_answers t lt =
      let is = asked.tests t lt in
      record {
        absent = λ v h. (is.exact 0 (omega arith) v).0 h;
        present = λ i r v got h.
            let low = within_got (rows_at q.rows t) i r got in
            (is.exact (i + 1) (omega (arith, low)) v).0 h ∙ ap (λ j. row_answer (rows_at q.rows t) j) (let e : i + 1 ≡ suc i = omega arith in e)
            ∙ ap Some (get_or_from_slice_get (rows_at q.rows t) i r (row_at [] 0) got);
      }

  update_answers : (k : ℕ) → k < s.memories → AreUpdateAnswers s d.nodes k (memory_answers q k) (forms_at q.forms k)
  update_answers k lt = record {
    becomes = λ i f v got h. ((asked.memories k lt).exact i (within_got (forms_at q.forms k) i f got) v).0 h
        ∙ get_or_from_slice_get (forms_at q.forms k) i f no_form got;
  }

  sides : AreSides s d.nodes (observer_answers q)
  sides = record { good = λ v h. (asked.observer.exact 0 (omega arith) v).0 h; bad = λ v h. (asked.observer.exact 1 (omega arith) v).0 h }

  unread : IsSystem s → (i b : ℕ) (v w : Valuation) → i < length q.questions → b < length (list_at q.questions i) → IsSameValuation s v w
      → is_in d.nodes (list_at q.questions i) b v ≡ is_in d.nodes (list_at q.questions i) b w
  unread system i b v w lt low same = by (kinds s.tests s.memories i (omega (arith, lt, asked.many))) low
    where
      by : Kinds s.tests s.memories i → b < length (list_at q.questions i)
          → is_in d.nodes (list_at q.questions i) b v ≡ is_in d.nodes (list_at q.questions i) b w
      by (a_test less) low = exact_same (Option Row) d.nodes (λ u. s.row u i) (length (rows_at q.rows i) + 1) (row_answer (rows_at q.rows i))
          (list_at q.questions i) (asked.tests i less) b v w (omega (arith, low, (asked.tests i less).size)) (system.row v w i same)
      by (a_memory k less e) low =
          let here = memory_place k i e in
          subst (λ (l : List ℕ). is_in d.nodes l b v ≡ is_in d.nodes l b w) (sym here)
          (exact_same Form d.nodes (λ u. s.update u k) (length (forms_at q.forms k)) (form_answer (forms_at q.forms k)) (memory_answers q k)
          (asked.memories k less) b v w (let h = subst (λ (l : List ℕ). b < length l) here low in omega (arith, h, (asked.memories k less).size))
          (system.update v w k same))
      by (the_observer e) low =
          let here = observer_place i e in
          subst (λ (l : List ℕ). is_in d.nodes l b v ≡ is_in d.nodes l b w) (sym here)
          (exact_same Bool d.nodes s.observer 2 side_answer (observer_answers q) asked.observer b v w
          (let h = subst (λ (l : List ℕ). b < length l) here low in omega (arith, h, asked.observer.size)) (system.observer v w same))

  pub are_questions : IsSystem s → AreQuestions s d q
  are_questions system = record {
    variables = asked.variables;
    answers = have;
    many_tests = asked.many_tests;
    many_memories = asked.many_memories;
    tests = test_answers;
    updates = update_answers;
    observer = sides;
    unread = unread system;
  }

  pub are_distinct : AreDistinct q
  are_distinct = record {
    rows = λ t i j r one two. by_row t i j r one two (cases_lt t s.tests);
    forms = λ k i j f one two. by_form k i j f one two (cases_lt k s.memories);
  }
    where
      by_row : (t i j : ℕ) (r : Row) → slice_get (rows_at q.rows t) i ≡ Some r → slice_get (rows_at q.rows t) j ≡ Some r → (t < s.tests) ⊎ (s.tests ≤ t) → i ≡ j
      by_row t i j r one two (inl lt) =
          let a = within_got (rows_at q.rows t) i r one in
          let b = within_got (rows_at q.rows t) j r two in
          let same = (asked.tests t lt).different (suc i) (suc j) (omega (arith, a)) (omega (arith, b))
          (ap Some (get_or_from_slice_get (rows_at q.rows t) i r (row_at [] 0) one ∙ sym (get_or_from_slice_get (rows_at q.rows t) j r (row_at [] 0) two))) in
          omega (arith, same)
      by_row t i j r one two (inr ge) =
          let none : rows_at q.rows t ≡ [] = get_or-eq_default q.rows [] (omega (arith, asked.many_tests)) in
          absurd (let low = within_got (rows_at q.rows t) i r one in let z = ap (λ (l : List Row). length l) none in omega (arith, low, z))

      by_form : (k i j : ℕ) (f : Form) → slice_get (forms_at q.forms k) i ≡ Some f → slice_get (forms_at q.forms k) j ≡ Some f
          → (k < s.memories) ⊎ (s.memories ≤ k) → i ≡ j
      by_form k i j f one two (inl lt) =
          let a = within_got (forms_at q.forms k) i f one in
          let b = within_got (forms_at q.forms k) j f two in
          (asked.memories k lt).different i j a b
          (get_or_from_slice_get (forms_at q.forms k) i f no_form one ∙ sym (get_or_from_slice_get (forms_at q.forms k) j f no_form two))
      by_form k i j f one two (inr ge) =
          let none : forms_at q.forms k ≡ [] = get_or-eq_default q.forms [] (omega (arith, asked.many_memories)) in
          absurd (let low = within_got (forms_at q.forms k) i f one in let z = ap (λ (l : List Form). length l) none in omega (arith, low, z))
