use Rattle.std.proofs.Common.{◌≡◌, ℕ, ◌<◌, ◌^◌, true, All, length}
use Rattle.rv_rows.specs.Rows.{RowWithin, row_at}
use Rattle.rv_proofs.specs.Systems.{System, IsSystem}
use Rattle.rv_cases.specs.Questions.{AreQuestions}
use Rattle.rv_accept.specs.Needs.{flag_at, StaysRow}
use Rattle.rv_accept.proofs.settling.still_rows.Given as goal

abbrev pub invariant-loop-t : goal.invariant-loop-t
invariant-loop-t l = record {
  same : l.store ≡ l.initial.store;
  size : length l.rows ≡ l.t;
  small : (s : System) → IsSystem s → AreQuestions s l.initial.store l.questions → All (RowWithin (2 ^ 60)) l.rows;
  still : (s : System) → IsSystem s → AreQuestions s l.initial.store l.questions
      → (t : ℕ) → t < l.t → flag_at l.named t ≡ true → StaysRow s l.initial.store.nodes l.scope t (row_at l.rows t);
}
