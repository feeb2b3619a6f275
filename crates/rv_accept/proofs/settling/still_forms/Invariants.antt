use Rattle.std.proofs.Common.{◌≡◌, ℕ, ◌<◌, true, All, length}
use Rattle.rv_proofs.specs.{Systems.System, Systems.IsSystem, Systems.IsUpdate, Implied.form_at}
use Rattle.rv_cases.specs.Questions.{AreQuestions}
use Rattle.rv_accept.specs.Needs.{flag_at, StaysForm}
use Rattle.rv_accept.proofs.settling.still_forms.Given as goal

abbrev pub invariant-loop-k : goal.invariant-loop-k
invariant-loop-k l = record {
  same : l.store ≡ l.initial.store;
  size : length l.forms ≡ l.k;
  updates : (s : System) → IsSystem s → AreQuestions s l.initial.store l.questions → All (IsUpdate s) l.forms;
  still : (s : System) → IsSystem s → AreQuestions s l.initial.store l.questions
      → (k : ℕ) → k < l.k → flag_at l.needed k ≡ true → StaysForm s l.initial.store.nodes l.scope k (form_at l.forms k);
}
