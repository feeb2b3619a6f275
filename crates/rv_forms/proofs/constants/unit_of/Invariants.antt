use Rattle.std.proofs.Common.{◌≡◌, take}
use Rattle.rv_rows.specs.Arithmetic.{unit}
use Rattle.rv_forms.proofs.constants.unit_of.Given as goal

abbrev pub invariant-loop-number : goal.invariant-loop-number
invariant-loop-number l = l.numbers ≡ take l.number (unit l.column l.columns)
