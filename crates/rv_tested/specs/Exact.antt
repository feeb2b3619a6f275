-- References that answer a question exactly, and questions whose answers are those of a system.
use Rattle.std.specs.Prelude.{◌≡◌, ◌↔◌, ℕ, zero, suc, ◌+◌, ◌<◌, Bool, true, false, List, length, Option, Some, slice_index_or, None as Nothing}
use Rattle.rv_diagram.specs.{declared.Triple.Triple, Nodes.Valuation, Nodes.Diagrams}
use Rattle.rv_rows.specs.{declared.linear.Row.Row, declared.linear.Form.Form, Rows.row_at}
use Rattle.rv_proofs.specs.Systems.{System}
use Rattle.rv_terms.specs.Parts.{no_form}
use Rattle.rv_cases.specs.Questions.{rows_at, forms_at, memory_answers, observer_answers}
use Rattle.rv_cases.specs.{declared.asking.Questions.Questions, Conditions.is_in, Conditions.list_at, Conditions.AreRefs}

-- Answer i is true exactly at the valuations at which f is value i. At each valuation f is one of the first n values, of which no
-- two are equal.
pub record AreExact (A : Type 0) (nodes : List Triple) (f : Valuation → A) (n : ℕ) (value : ℕ → A) (refs : List ℕ) : Type 0 where
  pub size : length refs ≡ n
  pub found : AreRefs nodes refs
  pub exact : (i : ℕ) → i < n → (v : Valuation) → (is_in nodes refs i v ≡ true) ↔ (f v ≡ value i)
  pub covers : (v : Valuation) → (i : ℕ) × (i < n) × (f v ≡ value i)
  pub different : (i j : ℕ) → i < n → j < n → value i ≡ value j → i ≡ j

-- what the answers to the question of a test say: the first that it is absent, and each further one that it has the next row
abbrev pub row_answer : List Row → ℕ → Option Row
row_answer rows zero = Nothing
row_answer rows (suc i) = Some (row_at rows i)

-- what those to the question of a memory say: that it becomes one of the forms
abbrev pub form_answer : List Form → ℕ → Form
form_answer forms i = slice_index_or forms i no_form

-- what those to the question of the observer say: that it is true, that it is false
abbrev pub side_answer : ℕ → Bool
side_answer zero = true
side_answer (suc i) = false

-- the answers are exactly those of test t
abbrev pub IsTestRead : System → List Triple → ℕ → List ℕ → List Row → Type 0
IsTestRead s nodes t refs rows = AreExact (Option Row) nodes (λ v. s.row v t) (length rows + 1) (row_answer rows) refs

-- the answers are exactly those of memory k
abbrev pub IsMemoryRead : System → List Triple → ℕ → List ℕ → List Form → Type 0
IsMemoryRead s nodes k refs forms = AreExact Form nodes (λ v. s.update v k) (length forms) (form_answer forms) refs

-- The questions are those of the system, test after test, then memory after memory, then the observer, and each answer is true
-- exactly where it is right.
pub record AreAsked (s : System) (d : Diagrams) (q : Questions) : Type 0 where
  pub variables : d.variables ≡ s.variables
  pub many : length q.questions ≡ s.tests + s.memories + 1
  pub many_tests : length q.rows ≡ s.tests
  pub many_memories : length q.forms ≡ s.memories
  pub tests : (t : ℕ) → t < s.tests → IsTestRead s d.nodes t (list_at q.questions t) (rows_at q.rows t)
  pub memories : (k : ℕ) → k < s.memories → IsMemoryRead s d.nodes k (memory_answers q k) (forms_at q.forms k)
  pub observer : AreExact Bool d.nodes s.observer 2 side_answer (observer_answers q)
