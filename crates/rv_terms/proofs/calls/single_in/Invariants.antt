use Rattle.std.proofs.Common.{◌≡◌}
use Rattle.rv_terms.proofs.Finding.{IsFound}
use Rattle.rv_terms.proofs.calls.single_in.Given as goal

abbrev pub invariant-loop-i : goal.invariant-loop-i
invariant-loop-i l = record {
  same : l.store ≡ l.initial.store;
  found : IsFound l.initial.store.nodes l.parts l.under l.i l.found;
}
