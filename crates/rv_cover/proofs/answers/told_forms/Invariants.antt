use Rattle.std.proofs.Common.{◌≡◌, length, All}
use Rattle.rv_proofs.specs.Systems.{System, IsSystem, IsUpdate}
use Rattle.rv_cases.specs.Questions.{AreQuestions}
use Rattle.rv_cover.proofs.answers.told_forms.Given as goal

abbrev pub invariant-loop-memory : goal.invariant-loop-memory
invariant-loop-memory l = record {
  size : length l.list ≡ l.memory;
  each : (s : System) → IsSystem s → AreQuestions s l.store l.questions → All (IsUpdate s) l.list;
}
