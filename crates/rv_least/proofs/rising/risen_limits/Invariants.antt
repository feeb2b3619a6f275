use Rattle.std.proofs.Common.{◌≡◌, ℤ, length, take}
use Rattle.rv_proofs.specs.{Systems.System, Systems.IsSystem, Boxes.BoxClaim}
use Rattle.rv_cases.specs.Questions.{AreQuestions}
use Rattle.rv_boxes.specs.Limits.{HasChanged}
use Rattle.rv_least.specs.{Turned.AreAllTurned, Opened.IsOpenedAt, Rising.AreRisen}
use Rattle.rv_least.proofs.rising.risen_limits.Given as goal

abbrev pub invariant-loop-memory : goal.invariant-loop-memory
invariant-loop-memory l = record {
  same : l.store ≡ l.initial.store;
  risen : (s : System) (c : BoxClaim) (sign : ℤ) → IsSystem s → IsOpenedAt s l.initial.store c l.opening → AreQuestions s l.initial.store l.questions
      → AreAllTurned s l.initial.store.nodes l.questions sign s.memories l.forms → length l.limits ≡ s.memories
      → AreRisen s c l.thresholds sign l.memory l.limits l.list;
  changed : HasChanged l.changed (take l.memory l.limits) l.list;
}
