use Rattle.std.proofs.Common.{◌≡◌, ℕ, ◌+◌, ◌<◌, true, false}
use Rattle.rv_diagram.specs.Nodes.{value_of}
use Rattle.rv_diagram.specs.Growing.{Extends}
use Rattle.rv_rows.specs.Rows.{row_at}
use Rattle.rv_cases.specs.Conditions.{is_in}
use Rattle.rv_accept.specs.Steps.{IsTrueOf}
use Rattle.rv_accept.proofs.settled.without_row.Given as goal

abbrev pub invariant-loop-i : goal.invariant-loop-i
invariant-loop-i l = record {
  extends : Extends l.initial.store l.store;
  rest : IsTrueOf l.store (λ v. (value_of l.initial.store.nodes l.scope v ≡ true)
      × ((k : ℕ) → k < l.i → row_at l.rows k ≡ l.row → is_in l.initial.store.nodes l.answers (k + 1) v ≡ false)) l.rest;
}
