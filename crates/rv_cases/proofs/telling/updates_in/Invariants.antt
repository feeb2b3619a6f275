use Rattle.std.proofs.Common.{ℕ}
use Rattle.rv_diagram.specs.Nodes.{value_of}
use Rattle.rv_proofs.specs.Systems.{System}
use Rattle.rv_cases.specs.{Conditions.IsSampleOf, Questions.AreQuestions, Questions.IsSettledFor, Telling.AreUpdated}
use Rattle.rv_cases.proofs.telling.updates_in.Given as goal

abbrev pub invariant-loop-k : goal.invariant-loop-k
invariant-loop-k l = (condition : ℕ) → IsSettledFor l.store.nodes l.questions condition → IsSampleOf l.store.nodes condition l.sample
    → (s : System) → AreQuestions s l.store l.questions → AreUpdated s (value_of l.store.nodes condition) l.k l.updates
