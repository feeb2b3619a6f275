use Rattle.std.proofs.Common.{◌≡◌, take}
use Rattle.rv_proofs.specs.Systems.{System, IsSystem}
use Rattle.rv_cases.specs.Questions.{AreQuestions}
use Rattle.rv_pairs.specs.Moves.{HoldsWhere}
use Rattle.rv_rise.specs.{Limits.AreRisen, Limits.HasChanged, Sides.AreSides}
use Rattle.rv_rise.proofs.limits.risen_limits.Given as goal

abbrev pub invariant-loop-place : goal.invariant-loop-place
invariant-loop-place l = record {
  same : l.store ≡ l.fn.store;
  risen : (s : System) → IsSystem s → AreQuestions s l.fn.store l.questions → AreSides s l.frame.sides
      → AreRisen l.frame.thresholds (HoldsWhere s l.fn.store.nodes l.labels l.taken) l.frame.sides l.place l.limits l.list;
  changed : HasChanged l.changed (take l.place l.limits) l.list;
}
