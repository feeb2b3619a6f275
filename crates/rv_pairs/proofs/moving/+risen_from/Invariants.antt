use Rattle.std.proofs.Common.{◌≡◌, ◌<◌, ◌≤◌, ◌-◌, ◌^◌, length, Some}
use Rattle.std.specs.Int.RustNames.{unsigned_abs}
use Rattle.rv_diagram.specs.Growing.{Extends}
use Rattle.rv_proofs.specs.Systems.{System, IsSystem}
use Rattle.rv_cases.specs.Questions.{AreQuestions, memory_answers}
use Rattle.rv_ends.specs.Risen.{IsRisen}
use Rattle.rv_pairs.specs.Moves.{IsMovedIn, HoldsAmong}
use Rattle.rv_pairs.proofs.moving.+risen_from.Given as goal

abbrev pub invariant-loop-place : goal.invariant-loop-place
invariant-loop-place l = record {
  extends : Extends l.fn.store l.store;
  small : unsigned_abs l.held ≤ 2 ^ 41;
  risen : (s : System) → IsSystem s → AreQuestions s l.fn.store l.questions → length l.side ≡ s.memories → 0 < s.memories
      → IsMovedIn s l.fn.store.nodes l.path l.side l.first l.form
      → IsRisen l.thresholds (HoldsAmong s l.fn.store.nodes l.labels l.taken l.path l.side (memory_answers l.questions l.column) l.place) (Some l.fn.limit)
      (Some l.held);
}

abbrev pub decreases-risen_from : goal.decreases-risen_from
decreases-risen_from l = length l.side.now - l.first
