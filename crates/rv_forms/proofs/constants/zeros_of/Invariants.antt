use Rattle.std.proofs.Common.{◌≡◌}
use Rattle.rv_rows.specs.Arithmetic.{zeros}
use Rattle.rv_forms.proofs.constants.zeros_of.Given as goal

abbrev pub invariant-loop : goal.invariant-loop
invariant-loop l = l.numbers ≡ zeros l.counter
