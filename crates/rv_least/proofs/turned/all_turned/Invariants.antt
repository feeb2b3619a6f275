use Rattle.rv_proofs.specs.Systems.{System, IsSystem}
use Rattle.rv_cases.specs.Questions.{AreQuestions}
use Rattle.rv_least.specs.Turned.{sign_of, AreAllTurned}
use Rattle.rv_least.proofs.turned.all_turned.Given as goal

abbrev pub invariant-loop-memory : goal.invariant-loop-memory
invariant-loop-memory l = (s : System) → IsSystem s → AreQuestions s l.store l.questions
    → AreAllTurned s l.store.nodes l.questions (sign_of l.sign) l.memory l.lists
