use Rattle.std.proofs.Common.{◌≡◌, ℕ, ◌<◌, true, false}
use Rattle.rv_diagram.specs.Nodes.{value_of}
use Rattle.rv_diagram.specs.Growing.{Extends}
use Rattle.rv_proofs.specs.Implied.{form_at}
use Rattle.rv_cases.specs.Conditions.{is_in}
use Rattle.rv_accept.specs.Steps.{IsTrueOf}
use Rattle.rv_accept.proofs.settled.without_form.Given as goal

abbrev pub invariant-loop-i : goal.invariant-loop-i
invariant-loop-i l = record {
  extends : Extends l.initial.store l.store;
  rest : IsTrueOf l.store (λ v. (value_of l.initial.store.nodes l.scope v ≡ true)
      × ((k : ℕ) → k < l.i → form_at l.forms k ≡ l.form → is_in l.initial.store.nodes l.answers k v ≡ false)) l.rest;
}
