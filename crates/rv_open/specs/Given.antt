-- What is given, and where the rows of tests hold by the answers to questions.
use Rattle.std.specs.Prelude.{◌≡◌, ℕ, ◌+◌, ◌<◌, List, [], length, Some, slice_get, true}
use Rattle.rv_diagram.specs.{declared.Triple.Triple, Nodes.Valuation, Nodes.Diagrams}
use Rattle.rv_rows.specs.{declared.linear.Row.Row, Rows.Holds}
use Rattle.rv_proofs.specs.Systems.{System}
use Rattle.rv_symbolic.specs.{declared.relation.Relation.Relation, Represented.IsRelationOf}
use Rattle.rv_cases.specs.{declared.asking.Questions.Questions, Questions.AreQuestions, Questions.rows_at, Conditions.is_in, Conditions.list_at}
use Rattle.rv_open.specs.Columns.{HasNoColumns}

-- The relation and the questions are those of the system in the store, and it has no columns.
pub record IsConstant (s : System) (d : Diagrams) (r : Relation) (q : Questions) : Type 0 where
  pub relation : IsRelationOf s d r
  pub questions : AreQuestions s d q
  pub columns : HasNoColumns s

-- Of the first n rows of a test each holds that the valuation's answer says.
abbrev pub HoldAmong : List Triple → List ℕ → List Row → ℕ → Valuation → Type 0
HoldAmong nodes answers rows n v = (i : ℕ) (r : Row) → i < n → slice_get rows i ≡ Some r → is_in nodes answers (i + 1) v ≡ true → Holds r []

-- Each row holds that the valuation's answers to the questions of the first n tests say.
abbrev pub HoldOfTests : List Triple → Questions → ℕ → Valuation → Type 0
HoldOfTests nodes q n v = (t : ℕ) → t < n → HoldAmong nodes (list_at q.questions t) (rows_at q.rows t) (length (rows_at q.rows t)) v
