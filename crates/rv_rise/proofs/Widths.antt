-- How many columns the forms have that the memories become.
use Rattle.std.proofs.Common.{◌≡◌, ℕ, ◌+◌, ◌<◌, ◌≤◌, Bool, true, false, not, IsTrue, ◌↔◌, List, [], length, Some, slice_get, arith, refl, sym, ap, ◌∙◌, subst}
use Rattle.std.proofs.Common.{◌⊎◌, inl, inr}
use Rattle.std.proofs.{lemmas.Bool.cases_lt, lemmas.Option.get_or_from_slice_get}
use Rattle.std.specs.Prelude.{MatchBool}
use Rattle.rv_diagram.specs.{Nodes.Valuation, declared.Triple.Triple, Nodes.value_of, Nodes.Diagrams}
use Rattle.rv_rows.specs.{declared.linear.Form.Form}
use Rattle.rv_proofs.specs.Systems.{System, IsSystem}
use Rattle.rv_cases.specs.Conditions.{is_in, list_at, AreAnswers}
use Rattle.rv_cases.specs.Questions.{AreQuestions, memory_answers, forms_at}
use Rattle.rv_cases.specs.declared.asking.Questions.{Questions}

-- none of the first n answers is given anywhere
pub none_more : (nodes : List Triple) (answers : List ℕ) (n : ℕ) → ((i : ℕ) (v : Valuation) → i < n → is_in nodes answers i v ≡ true → ⊥)
    → ((v : Valuation) → is_in nodes answers n v ≡ true → ⊥) → (i : ℕ) (v : Valuation) → i < n + 1 → is_in nodes answers i v ≡ true → ⊥
none_more nodes answers n before here i v l on = go (cases_lt i n)
  where
    go : (i < n) ⊎ (n ≤ i) → ⊥
    go (inl m) = before i v m on
    go (inr m) = let e : i ≡ n = omega (arith, l, m) in here v (subst (λ (j : ℕ). is_in nodes answers j v ≡ true) e on)

-- but one is
pub some_given : (nodes : List Triple) (answers : List ℕ) → AreAnswers nodes answers → (n : ℕ) → n ≡ length answers
    → ((i : ℕ) (v : Valuation) → i < n → is_in nodes answers i v ≡ true → ⊥) → ⊥
some_given nodes answers are n e none =
    let (i, l, on) = are.covered (λ x. true) in none i (λ x. true) (omega (arith, l, e)) on

-- the answers and the forms of the first memory
pub first_answers : (s : System) (d : Diagrams) (q : Questions) → AreQuestions s d q → 0 < length q.forms → (answers : List ℕ) (forms : List Form)
    → slice_get q.questions (length q.rows) ≡ Some answers → slice_get q.forms 0 ≡ Some forms → AreAnswers d.nodes answers × (length answers ≡ length forms)
first_answers s d q are some answers forms at there =
    let a = are.answers in
    let e : list_at q.questions (length q.rows) ≡ answers = get_or_from_slice_get q.questions (length q.rows) answers [] at in
    let g : forms_at q.forms 0 ≡ forms = get_or_from_slice_get q.forms 0 forms [] there in
    let n : length q.rows + 0 ≡ length q.rows = omega arith in (
      subst (AreAnswers d.nodes) e (a.one (length q.rows) (let m = a.many in omega (arith, m))),
      sym (ap length (ap (list_at q.questions) n ∙ e)) ∙ a.memories 0 some ∙ ap length g,
    )

pub first_wide : (s : System) (d : Diagrams) (q : Questions) → IsSystem s → AreQuestions s d q → 0 < s.memories → (answers : List ℕ) (forms : List Form)
    → slice_get q.questions (length q.rows) ≡ Some answers → slice_get q.forms 0 ≡ Some forms → (i : ℕ) (g : Form) (v : Valuation)
    → slice_get forms i ≡ Some g → is_in d.nodes answers i v ≡ true → length g.coefficients ≡ s.columns
first_wide s d q is are some answers forms at there i g v here on =
    let of = are.updates 0 some in
    let n : length q.rows + 0 ≡ length q.rows = omega arith in
    let first : memory_answers q 0 ≡ answers = ap (list_at q.questions) n ∙ get_or_from_slice_get q.questions (length q.rows) answers [] at in
    let second : forms_at q.forms 0 ≡ forms = get_or_from_slice_get q.forms 0 forms [] there in
    let e : s.update v 0 ≡ g = of.becomes i g v (subst (λ (fs : List Form). slice_get fs i ≡ Some g) (sym second) here)
    (subst (λ (rs : List ℕ). is_in d.nodes rs i v ≡ true) (sym first) on) in
    let u = is.updates v 0 some in
    ap (λ (h : Form). length h.coefficients) (sym e) ∙ u.wide

-- whether an answer is given anywhere
pub given_is : (nodes : List Triple) (answer : ℕ) (none : Bool) → IsTrue none ↔ ((v : Valuation) → value_of nodes answer v ≡ false)
    → MatchBool (not none) (¬ ((v : Valuation) → value_of nodes answer v ≡ false)) ((v : Valuation) → value_of nodes answer v ≡ false)
given_is nodes answer true h = h.0 refl
given_is nodes answer false h = λ all. let t : false ≡ true = h.1 all in cc
