-- The answers of tests and memories by number, and lists that grow by one.
use Rattle.std.proofs.Common.{ℕ, ◌+◌, ◌<◌, ◌≡◌, Bool, true, List, [], ◌∷◌, ◌++◌, length, get_or, All, sym, ap, ◌∙◌, subst, ⊎_elim, arith, Option, Some}
use Rattle.std.proofs.Common.{slice_get, MatchOption, false, None as Nothing}
use Rattle.std.proofs.lemmas.List.{get_or_append_left, get_or_push, length_push}
use Rattle.std.proofs.{lemmas.Bool.cases_lt, lemmas.List.Elements.All-push, lemmas.Option.slice_get_within, lemmas.Option.get_or_from_slice_get}
use Rattle.rv_rows.specs.{declared.linear.Row.Row, declared.linear.Form.Form}
use Rattle.rv_diagram.specs.{declared.Triple.Triple, Nodes.Valuation, Nodes.Diagrams, Nodes.IsLeast, Nodes.value_of}
use Rattle.rv_proofs.specs.Systems.{System}
use Rattle.rv_cases.specs.Questions.{HaveAnswers, AreQuestions, AreTestAnswers, AreUpdateAnswers, rows_at, forms_at}
use Rattle.rv_cases.specs.{declared.asking.Questions.Questions, Conditions.list_at, Conditions.AreAnswers}
use Rattle.rv_accept.specs.Needs.{flag_at, IsPointOf}

module _ (nodes : List Triple) (q : Questions) (t : ℕ) (answers : List ℕ) (known : List Row) (have : HaveAnswers nodes q)
    (at : slice_get q.questions t ≡ Some answers) (at_rows : slice_get q.rows t ≡ Some known) where
  pub test_answers : AreAnswers nodes answers
  test_answers = subst (AreAnswers nodes) (get_or_from_slice_get q.questions t answers [] at) (have.one t (slice_get_within q.questions t answers at))

  pub test_counts : length answers ≡ length known + 1
  test_counts = ap (λ (l : List ℕ). length l) (sym (get_or_from_slice_get q.questions t answers [] at)) ∙ have.tests t (slice_get_within q.rows t known at_rows)
      ∙ ap (λ (l : List Row). length l + 1) (get_or_from_slice_get q.rows t known [] at_rows)

module _ (nodes : List Triple) (q : Questions) (k n : ℕ) (answers : List ℕ) (known : List Form) (have : HaveAnswers nodes q)
    (e : n ≡ length q.rows + k) (at : slice_get q.questions n ≡ Some answers) (at_forms : slice_get q.forms k ≡ Some known) where
  pub memory_there : AreAnswers nodes answers
  memory_there = subst (AreAnswers nodes) (get_or_from_slice_get q.questions n answers [] at) (have.one n (slice_get_within q.questions n answers at))

  pub memory_counts : length answers ≡ length known
  memory_counts = ap (λ (l : List ℕ). length l) (sym (get_or_from_slice_get q.questions n answers [] at)) ∙ ap (λ (m : ℕ). length (list_at q.questions m)) e
      ∙ have.memories k (slice_get_within q.forms k known at_forms) ∙ ap (λ (l : List Form). length l) (get_or_from_slice_get q.forms k known [] at_forms)

-- what the answers say, in a store that is the same
pub test_asked : (s : System) (d e : Diagrams) (q : Questions) (t : ℕ) (answers : List ℕ) (known : List Row) → e ≡ d → AreQuestions s d q
    → slice_get q.questions t ≡ Some answers → slice_get q.rows t ≡ Some known → AreTestAnswers s e.nodes t answers known
test_asked s d e q t answers known same are at at_rows =
    let low : t < length q.rows = slice_get_within q.rows t known at_rows in
    let many : length q.rows ≡ s.tests = are.many_tests in
    let here : AreTestAnswers s d.nodes t (list_at q.questions t) (rows_at q.rows t) = are.tests t (omega arith) in
    subst (λ (x : Diagrams). AreTestAnswers s x.nodes t answers known) (sym same)
    (subst (λ (l : List ℕ). AreTestAnswers s d.nodes t l known) (get_or_from_slice_get q.questions t answers [] at)
    (subst (λ (l : List Row). AreTestAnswers s d.nodes t (list_at q.questions t) l) (get_or_from_slice_get q.rows t known [] at_rows) here))

pub memory_asked : (s : System) (d e : Diagrams) (q : Questions) (k n : ℕ) (answers : List ℕ) (known : List Form) → e ≡ d → AreQuestions s d q
    → n ≡ length q.rows + k → slice_get q.questions n ≡ Some answers → slice_get q.forms k ≡ Some known → AreUpdateAnswers s e.nodes k answers known
memory_asked s d e q k n answers known same are place at at_forms =
    let low : k < length q.forms = slice_get_within q.forms k known at_forms in
    let many : length q.forms ≡ s.memories = are.many_memories in
    let here : AreUpdateAnswers s d.nodes k (list_at q.questions (length q.rows + k)) (forms_at q.forms k) = are.updates k (omega arith) in
    let list : list_at q.questions (length q.rows + k) ≡ answers = ap (λ (m : ℕ). list_at q.questions m) (sym place)
    ∙ get_or_from_slice_get q.questions n answers [] at in
    subst (λ (x : Diagrams). AreUpdateAnswers s x.nodes k answers known) (sym same)
    (subst (λ (l : List ℕ). AreUpdateAnswers s d.nodes k l known) list
    (subst (λ (l : List Form). AreUpdateAnswers s d.nodes k (list_at q.questions (length q.rows + k)) l)
    (get_or_from_slice_get q.forms k known [] at_forms) here))

-- one element more
module _ {X : Type 0} (xs ys : List X) (x d : X) (i : ℕ) (e : ys ≡ xs ++ x ∷ []) (size : length xs ≡ i) where
  pub size_more : length ys ≡ i + 1
  size_more = ap (λ (l : List X). length l) e ∙ length_push xs x ∙ ap (λ n. n + 1) size

  pub all_more : (P : X → Type 0) → All P xs → P x → All P ys
  all_more P all here = subst (λ (l : List X). All P l) (sym e) (All-push P xs x all here)

  pub flagged_more : (P : ℕ → X → Type 0) (flags : List Bool) → ((t : ℕ) → t < i → flag_at flags t ≡ true → P t (get_or xs t d)) → (flag_at flags i ≡ true
      → P i x)
      → (t : ℕ) → t < i + 1 → flag_at flags t ≡ true → P t (get_or ys t d)
  flagged_more P flags before here t low on = ⊎_elim
      (λ less. subst (λ (y : X). P t y) (sym (get_or_append_left xs (x ∷ []) d t (omega arith)) ∙ ap (λ (l : List X). get_or l t d) (sym e)) (before t less on))
      (λ ge. let is : i ≡ t = omega (arith, low) in
      subst (λ (y : X). P t y) (sym (ap (λ n. get_or (xs ++ x ∷ []) n d) (sym is) ∙ get_or_push xs x d i size) ∙ ap (λ (l : List X). get_or l t d) (sym e))
      (subst (λ n. P n x) is (here (subst (λ n. flag_at flags n ≡ true) (sym is) on))))
      (cases_lt t i)

-- a valuation that was picked is one of the scope
pub point_of : (nodes : List Triple) (variables scope : ℕ) (o : Option (List Bool)) → MatchOption o ((v : Valuation)
    → value_of nodes scope v ≡ false) (λ w. IsLeast nodes variables scope w)
    → IsPointOf nodes variables scope o
point_of nodes variables scope Nothing h = h
point_of nodes variables scope (Some w) h = (h.size, h.holds)
