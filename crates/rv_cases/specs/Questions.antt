-- What the answers to questions mean.
use Rattle.std.specs.Prelude.{◌≡◌, ℕ, ◌+◌, ◌<◌, true, false, List, [], length, Some, slice_index_or, slice_get, None as Nothing}
use Rattle.rv_diagram.specs.{declared.Triple.Triple, Nodes.Valuation, Nodes.Diagrams}
use Rattle.rv_rows.specs.{declared.linear.Row.Row, declared.linear.Form.Form}
use Rattle.rv_proofs.specs.Systems.{System, IsSameValuation}
use Rattle.rv_cases.specs.{declared.asking.Questions.Questions, Conditions.is_in, Conditions.list_at, Conditions.AreAnswers, Conditions.HasOneAnswer}

-- the rows of test t
abbrev pub rows_at : List (List Row) → ℕ → List Row
rows_at rows t = slice_index_or rows t []

-- the forms of memory k
abbrev pub forms_at : List (List Form) → ℕ → List Form
forms_at forms k = slice_index_or forms k []

-- the answers to the question of memory k
abbrev pub memory_answers : Questions → ℕ → List ℕ
memory_answers q k = list_at q.questions (length q.rows + k)

-- the answers to the question of the observer
abbrev pub observer_answers : Questions → List ℕ
observer_answers q = list_at q.questions (length q.rows + length q.forms)

-- To each question each valuation has exactly one answer. There is a question for each test, then one for each integer memory,
-- then that of the observer. A test has an answer more than rows, a memory as many as forms, the observer two.
pub record HaveAnswers (nodes : List Triple) (q : Questions) : Type 0 where
  pub many : length q.questions ≡ length q.rows + length q.forms + 1
  pub one : (i : ℕ) → i < length q.questions → AreAnswers nodes (list_at q.questions i)
  pub tests : (t : ℕ) → t < length q.rows → length (list_at q.questions t) ≡ length (rows_at q.rows t) + 1
  pub memories : (k : ℕ) → k < length q.forms → length (memory_answers q k) ≡ length (forms_at q.forms k)
  pub sides : length (observer_answers q) ≡ 2

-- Of test t the first answer says that its comparison is absent, and answer i + 1 that it has row i.
pub record AreTestAnswers (s : System) (nodes : List Triple) (t : ℕ) (answers : List ℕ) (rows : List Row) : Type 0 where
  pub absent : (v : Valuation) → is_in nodes answers 0 v ≡ true → s.row v t ≡ Nothing
  pub present : (i : ℕ) (r : Row) (v : Valuation) → slice_get rows i ≡ Some r → is_in nodes answers (i + 1) v ≡ true → s.row v t ≡ Some r

-- Of memory k answer i says that it becomes form i.
pub record AreUpdateAnswers (s : System) (nodes : List Triple) (k : ℕ) (answers : List ℕ) (forms : List Form) : Type 0 where
  pub becomes : (i : ℕ) (f : Form) (v : Valuation) → slice_get forms i ≡ Some f → is_in nodes answers i v ≡ true → s.update v k ≡ f

-- The first answer says that the observer is true, the second that it is false.
pub record AreSides (s : System) (nodes : List Triple) (answers : List ℕ) : Type 0 where
  pub good : (v : Valuation) → is_in nodes answers 0 v ≡ true → s.observer v ≡ true
  pub bad : (v : Valuation) → is_in nodes answers 1 v ≡ true → s.observer v ≡ false

-- The questions are those of the system, whose variables the store has: at each valuation the one answer to each question says what the
-- system is there. No answer reads a next copy.
pub record AreQuestions (s : System) (d : Diagrams) (q : Questions) : Type 0 where
  pub variables : d.variables ≡ s.variables
  pub answers : HaveAnswers d.nodes q
  pub many_tests : length q.rows ≡ s.tests
  pub many_memories : length q.forms ≡ s.memories
  pub tests : (t : ℕ) → t < s.tests → AreTestAnswers s d.nodes t (list_at q.questions t) (rows_at q.rows t)
  pub updates : (k : ℕ) → k < s.memories → AreUpdateAnswers s d.nodes k (memory_answers q k) (forms_at q.forms k)
  pub observer : AreSides s d.nodes (observer_answers q)
  pub unread : (i b : ℕ) (v w : Valuation) → i < length q.questions → b < length (list_at q.questions i) → IsSameValuation s v w
      → is_in d.nodes (list_at q.questions i) b v ≡ is_in d.nodes (list_at q.questions i) b w

-- No test has one row in two answers, and no memory one form.
pub record AreDistinct (q : Questions) : Type 0 where
  pub rows : (t i j : ℕ) (r : Row) → slice_get (rows_at q.rows t) i ≡ Some r → slice_get (rows_at q.rows t) j ≡ Some r → i ≡ j
  pub forms : (k i j : ℕ) (f : Form) → slice_get (forms_at q.forms k) i ≡ Some f → slice_get (forms_at q.forms k) j ≡ Some f → i ≡ j

-- To each question all valuations of the condition have one answer.
abbrev pub IsSettledFor : List Triple → Questions → ℕ → Type 0
IsSettledFor nodes q condition = (i : ℕ) → i < length q.questions → HasOneAnswer nodes condition (list_at q.questions i)
