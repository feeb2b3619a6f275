-- Cases that are made of conditions.
use Rattle.std.specs.Prelude.{◌≡◌, ℕ, ◌&&◌, Bool, List, length, Some, slice_get}
use Rattle.rv_diagram.specs.Nodes.{Valuation, Diagrams, value_of, IsOrderedOver}
use Rattle.rv_diagram.specs.{declared.Triple.Triple, declared.frozen.Frozen.Frozen, Several.ref_at, Several.UsesNeeded}
use Rattle.rv_diagram.specs.Growing.{Extends}
use Rattle.rv_proofs.specs.{Systems.System, declared.report.Case.Case}
use Rattle.rv_cases.specs.Telling.{AreTold, AreUpdated, IsObserved}
use Rattle.rv_cases.specs.{declared.asking.Questions.Questions, Conditions.IsParted, Conditions.AreJoined, Questions.AreQuestions}

-- whether a valuation is allowed and its control state is in the set
abbrev pub is_allowed_in : List Triple → ℕ → Frozen → Valuation → Bool
is_allowed_in nodes allowed from v = value_of nodes allowed v && value_of from.nodes from.root v

-- The case has the meaning of the reference as its condition, whose nodes all matter, and for the rest what each system with these
-- questions is throughout it.
pub record IsMadeFor (d : Diagrams) (q : Questions) (condition : ℕ) (c : Case) : Type 0 where
  pub ordered : IsOrderedOver d.variables c.condition
  pub means : (v : Valuation) → value_of c.condition.nodes c.condition.root v ≡ value_of d.nodes condition v
  pub needed : UsesNeeded c.condition.nodes (value_of d.nodes condition)
  pub tests : (s : System) → AreQuestions s d q → AreTold s (value_of d.nodes condition) s.tests c.tests c.rows
  pub updates : (s : System) → AreQuestions s d q → AreUpdated s (value_of d.nodes condition) s.memories c.updates
  pub observer : (s : System) → AreQuestions s d q → IsObserved s (value_of d.nodes condition) c.observer

-- The cases are made of conditions that part p, one of each, and valuations of p with the same answers are in one condition.
pub record AreMadeOf (old : Diagrams) (q : Questions) (p : Valuation → Bool) (cases : List Case) : Type 0 where
  pub new : Diagrams
  pub extends : Extends old new
  pub conditions : List ℕ
  pub parted : IsParted new.nodes p conditions
  pub joined : AreJoined old.nodes new.nodes p q.questions (length q.questions) conditions
  pub many : length cases ≡ length conditions
  pub made : (j : ℕ) (c : Case) → slice_get cases j ≡ Some c → IsMadeFor new q (ref_at conditions j) c

-- No two cases have the same tests, rows, updates and observer.
abbrev pub AreDifferent : List Case → Type 0
AreDifferent cases = (i j : ℕ) (b c : Case) → slice_get cases i ≡ Some b → slice_get cases j ≡ Some c
    → b.tests ≡ c.tests → b.rows ≡ c.rows → b.updates ≡ c.updates → b.observer ≡ c.observer → i ≡ j
