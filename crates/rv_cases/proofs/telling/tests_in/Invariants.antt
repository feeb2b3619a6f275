use Rattle.std.proofs.Common.{ℕ}
use Rattle.rv_diagram.specs.Nodes.{value_of}
use Rattle.rv_proofs.specs.Systems.{System}
use Rattle.rv_cases.specs.{Conditions.IsSampleOf, Questions.AreQuestions, Questions.IsSettledFor, Telling.AreTold}
use Rattle.rv_cases.proofs.telling.tests_in.Given as goal

abbrev pub invariant-loop-t : goal.invariant-loop-t
invariant-loop-t l = (condition : ℕ) → IsSettledFor l.store.nodes l.questions condition → IsSampleOf l.store.nodes condition l.sample
    → (s : System) → AreQuestions s l.store l.questions → AreTold s (value_of l.store.nodes condition) l.t l.tests l.rows
