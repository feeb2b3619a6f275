use Rattle.std.proofs.Common.{◌≡◌, ℕ, length, Some, slice_get}
use Rattle.rv_diagram.specs.Several.{ref_at}
use Rattle.rv_proofs.specs.declared.report.Case.{Case}
use Rattle.rv_cases.specs.Made.{IsMadeFor}
use Rattle.rv_cases.proofs.parting.make_cases.Given as goal

abbrev pub invariant-loop-j : goal.invariant-loop-j
invariant-loop-j l = record {
  many : length l.cases ≡ l.j;
  made : (j : ℕ) (c : Case) → slice_get l.cases j ≡ Some c → IsMadeFor l.store l.questions (ref_at l.conditions j) c;
}
