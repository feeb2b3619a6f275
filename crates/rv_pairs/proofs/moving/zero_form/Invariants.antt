use Rattle.std.proofs.Common.{◌≡◌}
use Rattle.rv_rows.specs.Arithmetic.{zeros}
use Rattle.rv_pairs.proofs.moving.zero_form.Given as goal

abbrev pub invariant-loop : goal.invariant-loop
invariant-loop l = l.coefficients ≡ zeros l.counter
